-- Legal lists of entries, the newest first.
use Rattle.std.specs.Prelude.{◌≡◌, ℕ, ◌<◌, ◌==◌, Bool, true, false, if◌then◌else◌, List, [], ◌∷◌, Option, Some, None}
use Rattle.gh_base.specs.Vocabulary.{Ask}
use Rattle.gh_base.specs.declared.layout.Layout.{Layout}
use Rattle.gh_base.specs.declared.machine.Entry.{Entry}
use Rattle.gh_base.specs.Cells.{Words, InRange}
use Rattle.gh_base.specs.Steps.{cell_of, effect}

-- A kind of actors: their private states M and operations O
pub record Kind (M O : Type 0) : Type 0 where
  -- what an actor is before its first step
  pub start : ℕ → M
  -- what it is once the operation is begun
  pub begins : M → O → M
  -- the step that it asks for
  pub asks : M → Ask
  -- what it is after the step found this
  pub takes : M → ℕ → M
  -- it has a step to make, with no operation begun
  pub busy : M → Bool

-- the state once the operation is begun, if any is
abbrev pub started : {M O : Type 0} → Kind M O → Option O → M → M
started k None m = m
started k (Some o) m = k.begins m o

module _ {O : Type 0} where
  -- an actor's own entries
  abbrev pub by : ℕ → List (Entry O) → List (Entry O)
  by a [] = []
  by a (e ∷ es) = if e.actor == a then e ∷ by a es else by a es

  -- the words after the list
  abbrev pub words_after : Words → List (Entry O) → Words
  words_after opening [] = opening
  words_after opening (e ∷ es) = effect (words_after opening es) e.ask

-- the private state of an actor after the list
abbrev pub state_of : {M O : Type 0} → Kind M O → ℕ → List (Entry O) → M
state_of k a [] = k.start a
state_of k a (e ∷ es) = if e.actor == a then k.takes (started k e.begun (state_of k a es)) e.found else state_of k a es

-- What a list is of: the actors, their layout and the words at its opening
pub record Setting (M O : Type 0) : Type 0 where
  pub kind : Kind M O
  pub layout : Layout
  pub actors : ℕ
  pub opening : Words
  -- an actor with these entries may begin the operation
  pub may_begin : ℕ → List (Entry O) → O → Bool

module _ {M O : Type 0} (s : Setting M O) where
  -- an operation begins exactly where none is begun, and only where it may
  abbrev pub Begins : ℕ → List (Entry O) → Option O → Type 0
  Begins a es None = s.kind.busy (state_of s.kind a es) ≡ true
  Begins a es (Some o) = (s.kind.busy (state_of s.kind a es) ≡ false) × (s.may_begin a (by a es) o ≡ true)

  -- the entry may follow the list
  pub record MayFollow (es : List (Entry O)) (e : Entry O) : Type 0 where
    pub actor : e.actor < s.actors
    pub begins : Begins e.actor es e.begun
    pub runs : s.kind.busy (started s.kind e.begun (state_of s.kind e.actor es)) ≡ true
    pub asks : e.ask ≡ s.kind.asks (started s.kind e.begun (state_of s.kind e.actor es))
    pub within : InRange s.layout (cell_of e.ask)
    pub found : e.found ≡ words_after s.opening es (cell_of e.ask)

  -- each entry may follow those before it
  abbrev pub Legal : List (Entry O) → Type 0
  Legal [] = Unit {0}
  Legal (e ∷ es) = Legal es × MayFollow es e
