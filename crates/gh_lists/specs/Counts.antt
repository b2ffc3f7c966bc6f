-- The numbers of cycles over every legal list of all actors, by how often the list stores each.
use Rattle.std.specs.Prelude.{◌≡◌, ◌↔◌, ℕ, suc, ◌+◌, ◌*◌, ◌≤◌, ◌⊎◌, Bool, false, if◌then◌else◌, List, [], ◌∷◌}
use Rattle.gh_lists.specs.Vocabulary.{acks_of, Actor, Ask, Cell, Coordinating, CoordStage, Entry, Legal, Op, same_cell, Setting, state_of, Store, StoreSwept, StoreTrigger, Tell, Words, words_after}
use Rattle.gh_coord.specs.declared.tell.TellStage.{TellStage}
use Rattle.gh_coord.specs.Handshake as leading
use Rattle.gh_lists.specs.Handshake.{those, Setup}
use Rattle.gh_lists.specs.Marking.{IsBeginning}
use Rattle.gh_lists.specs.Numbers.{IsFew, KeepsCycles}

-- the step stores this word
abbrev pub stores_cell : Cell → Ask → Bool
stores_cell c (Store at value) = same_cell at c
stores_cell c _ = false

-- one more where it does
abbrev pub stored_after : Cell → Ask → (before : ℕ) → ℕ
stored_after c ask before = if stores_cell c ask then suc before else before

-- how many entries of the list store this word
abbrev pub stored_in : Cell → List (Entry Op) → ℕ
stored_in c [] = 0
stored_in c (e ∷ es) = stored_after c e.ask (stored_in c es)

-- the last cycle that has ended is in the coordinator's list, and is not told to be swept yet: 1, or 0
abbrev pub told_by : TellStage → ℕ
told_by StoreTrigger = 1
told_by StoreSwept = 1
told_by _ = 0

abbrev pub about_to_tell : CoordStage → ℕ
about_to_tell (Tell t) = told_by t.stage
about_to_tell _ = 0

module _ (s : Setting Actor Op) (room : ℕ) (es : List (Entry Op)) (c : Coordinating) where
  abbrev words : Words
  words = words_after s.opening es

  pub record CountsPlainly : Type 0 where
    -- each number says how often it was stored
    pub begun : words Cell.Begun ≡ stored_in Cell.Begun es
    pub swept : words Cell.Swept ≡ stored_in Cell.Swept es
    pub gen : words Cell.Gen ≡ 2 + 2 * stored_in Cell.Gen es
    -- a cycle is opened, then its number stands as begun, then its marking ends with the next sweep generation, then it is swept; and no other is opened before
    pub opened_first : stored_in Cell.Begun es ≤ stored_in Cell.Want es
    pub begun_then : stored_in Cell.Gen es ≤ stored_in Cell.Begun es
    pub ended_then : stored_in Cell.Swept es ≤ stored_in Cell.Gen es
    pub one_at_once : stored_in Cell.Want es ≤ stored_in Cell.Swept es + 1
    -- a number stands as begun whose marking has not ended exactly while a cycle is marked, and where the store of that phase is next
    pub marks : stored_in Cell.Begun es ≡ stored_in Cell.Gen es + 1 ↔ (leading.Marks c.stage ⊎ IsBeginning c.stage)
    -- The coordinator's list of cycles has them in their order, and none is left out as long as there is room: those that are swept, and the one that it is about to tell.
    pub kept : KeepsCycles room (stored_in Cell.Swept es + about_to_tell c.stage) c.cycles

abbrev pub EveryListCountsPlainly : Type 0
EveryListCountsPlainly = (setup : Setup) (es : List (Entry Op)) (c : Coordinating) →
    Legal (those setup) es → IsFew es → state_of (those setup).kind (acks_of setup.layout) es ≡ Actor.Leads c → CountsPlainly (those setup) setup.pacing.room es c
