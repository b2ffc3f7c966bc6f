-- Lists of steps of all actors of a heap, the newest first: the words and the heap that never frees after one, who leads, and with which entry a cycle begins, ends or is swept.
use Rattle.std.specs.Prelude.{◌≡◌, ℕ, ◌≤◌, Bool, List, [], ◌∷◌}
use Rattle.gh_lists.specs.Vocabulary.{acks_of, Arena, Close, Coordinating, CoordStage, Entry, Ever, Layout, Legal, MOST_STATEMENTS, Op, processor_kind, Shape, state_of, StoreSwept, Tell, Words, words_after}
use Rattle.gh_coord.specs.declared.close.CloseStage.TheVariants.{StoreGen}
use Rattle.gh_lists.specs.Handshake.{first_words, Pacing, those, Setup}
use Rattle.gh_lists.specs.Marking.{IsBeginning, IsLedBy}
use Rattle.gh_lists.specs.Processors.{arena_of, ever_after_list, may_begin}
use Rattle.gh_lists.specs.Wants.{AreFew, total}

-- the coordinator's next step stores the next sweep generation: with that a cycle ends
abbrev pub IsEnding : CoordStage → Type 0
IsEnding (Close c) = c.stage ≡ StoreGen
IsEnding _ = ⊥

-- it stores the cycle's number: with that the cycle is swept
abbrev pub IsTelling : CoordStage → Type 0
IsTelling (Tell t) = t.stage ≡ StoreSwept
IsTelling _ = ⊥

-- what may begin where each goroutine has so many `new` and `gc`
abbrev pub may_of : List Shape → Layout → (counts : ℕ → ℕ) → ℕ → List (Entry Op) → Op → Bool
may_of shapes l counts a es o = may_begin (arena_of shapes l) counts a (state_of (processor_kind shapes l) a es) es o

-- what no step of a heap changes whose goroutines begin at most so many `new` and `gc`
pub record Given : Type 0 where
  pub shapes : List Shape
  pub layout : Layout
  pub pacing : Pacing
  pub counts : ℕ → ℕ

abbrev pub setup_for : Given → Setup
setup_for given = record { shapes = given.shapes; layout = given.layout; pacing = given.pacing; may = may_of given.shapes given.layout given.counts }

-- A heap that is set up so.
module _ (setup : Setup) where
  abbrev pub arena : Arena
  arena = arena_of setup.shapes setup.layout

  abbrev pub words : List (Entry Op) → Words
  words es = words_after (first_words setup) es

  abbrev pub ever : List (Entry Op) → Ever
  ever es = ever_after_list arena (first_words setup) es

  abbrev pub IsLed : List (Entry Op) → Coordinating → Type 0
  IsLed es c = IsLedBy arena setup.pacing setup.may es c

  -- The entry behind this list is the coordinator's, at such a stage of this cycle.
  pub record IsStepIn (at : CoordStage → Type 0) (k : ℕ) (e : Entry Op) (es : List (Entry Op)) : Type 0 where
    pub lead : Coordinating
    pub led : IsLed es lead
    pub by : e.actor ≡ acks_of setup.layout
    pub stage : at lead.stage
    pub cycle : lead.begun ≡ k

  abbrev pub IsNewest : (at : CoordStage → Type 0) → (k : ℕ) → List (Entry Op) → Type 0
  IsNewest at k [] = ⊥
  IsNewest at k (e ∷ es) = IsStepIn at k e es

  -- with the list's newest entry cycle k begins, ends, or is swept
  abbrev pub BeginsCycle : (k : ℕ) → List (Entry Op) → Type 0
  BeginsCycle k es = IsNewest IsBeginning k es

  abbrev pub EndsCycle : (k : ℕ) → List (Entry Op) → Type 0
  EndsCycle k es = IsNewest IsEnding k es

  abbrev pub SweepsCycle : (k : ℕ) → List (Entry Op) → Type 0
  SweepsCycle k es = IsNewest IsTelling k es

-- No more cycles are opened in a list than twice as many as goroutines may begin `new` and `gc`, and the last.
abbrev pub EveryListOpensFew : Type 0
EveryListOpensFew = (given : Given) (es : List (Entry Op)) → total given.counts given.layout.goroutines ≤ MOST_STATEMENTS → Legal (those (setup_for given)) es → AreFew given.counts given.layout es
