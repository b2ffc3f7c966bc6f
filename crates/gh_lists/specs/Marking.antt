-- Where a cycle begins and where its marking ends, and the state of marking after a list of all actors.
use Rattle.std.specs.Prelude.{◌≡◌, ℕ, ◌⊎◌, Bool, false, List, [], ◌∷◌}
use Rattle.gh_lists.specs.Vocabulary.{acks_of, Actor, Arena, Close, CoordStage, Entry, Layout, mark_words, Op, Open, row_bit, Setting, state_of, StorePhase, Words, words_after}
use Rattle.gh_base.specs.Cells.{plan_for}
use Rattle.gh_base.specs.Limits.{InLimits}
use Rattle.gh_marks.specs.Colours.{Cycle, Shared}
use Rattle.gh_marks.specs.Ends.{EachReachedIsMarked, IsDone}
use Rattle.gh_coord.specs.Listing as coord
use Rattle.gh_lists.specs.Handshake.{Pacing, Setup, those}

-- its next step stores the phase of marking: with that a cycle begins
abbrev pub IsBeginning : CoordStage → Type 0
IsBeginning (Open o) = o.stage ≡ StorePhase
IsBeginning _ = ⊥

-- it has checked that nothing is left to be marked
abbrev pub IsChecked : CoordStage → Type 0
IsChecked (Close c) = Unit {0}
IsChecked _ = ⊥

-- Where marking has ended nothing is left to be marked, each object that a path leads to is marked, and what is not of the cycle is not.
pub record EndsClean (z : Cycle) (s : Shared) : Type 0 where
  pub done : IsDone z s
  pub reached : EachReachedIsMarked z s
  pub dead : (o : ℕ) → s.since o ≡ false → row_bit (mark_words s.words) o ≡ 0

-- each number of the layout lies within its limits
abbrev pub IsInLimits : Layout → Type 0
IsInLimits l = InLimits (plan_for l)

-- The entries of the one list are the first of the other's, or all of them.
abbrev pub IsStartOf : (start : List (Entry Op)) → List (Entry Op) → Type 0
IsStartOf start [] = start ≡ []
IsStartOf start (e ∷ es) = (start ≡ e ∷ es) ⊎ IsStartOf start es

-- The lists of a heap.
module _ (arena : Arena) (pacing : Pacing) (may_begin : ℕ → List (Entry Op) → Op → Bool) where
  abbrev pub setup_in : Setup
  setup_in = record { shapes = arena.shapes; layout = arena.layout; pacing = pacing; may = may_begin }

  abbrev pub setting : Setting Actor Op
  setting = those setup_in

  -- all actors, the coordinator, and the words, after the list
  abbrev pub actors_after : List (Entry Op) → ℕ → Actor
  actors_after es a = state_of setting.kind a es

  abbrev pub IsLedBy : List (Entry Op) → coord.Coordinating → Type 0
  IsLedBy es c = actors_after es (acks_of arena.layout) ≡ Actor.Leads c

  abbrev pub words : List (Entry Op) → Words
  words es = words_after setting.opening es

  -- a state of marking in the coordinator's cycle, with the words as they stand
  pub record IsStateOf (es : List (Entry Op)) (c : coord.Coordinating) (z : Cycle) (s : Shared) : Type 0 where
    pub arena_is : z.arena ≡ arena
    pub number_is : z.number ≡ c.begun
    pub words_are : s.words ≡ words es
