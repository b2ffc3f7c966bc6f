-- What a processor begins by its turns, whoever makes its steps: what is due may begin, and behind it the processor is among its turns again.
use Rattle.std.specs.Prelude.{◌≡◌, ℕ, true, false, List, [], ◌∷◌, length, Some, None}
use Rattle.gh_world.specs.Vocabulary.{arena_of, by, Entry, goroutine_is_over, goroutine_of, has_left, has_more, in_range, is_of, Layout, may_leave, Next, Op, Program, Progress, WellFormed}
use Rattle.gh_world.specs.After.{KeepsPlace}
use Rattle.gh_world.specs.Turns.{Follows, op_due, to_come, turns_of}
use Rattle.gh_world.specs.Wishes.{wishes_of}
use Rattle.gh_world.specs.World.{AreTurns, LaysOut, opening_progress, progress_after}

-- By its own entries the processor at seat a may begin the operation: all that is asked of it there (`may_begin`), but a name for what is to be made, and room for the entries of a barrier.
pub record FitsOwnEntries (p : Program) (l : Layout) (a : ℕ) (own : List (Entry Op)) (o : Op) : Type 0 where
  pub ranged : in_range l.goroutines l.globals (length p.shapes) o ≡ true
  pub its : is_of (arena_of p.shapes l) a (goroutine_of o) ≡ true
  pub going : goroutine_is_over own (goroutine_of o) ≡ false
  pub staying : has_left own ≡ false
  pub asking : has_more (wishes_of p) own o ≡ true
  pub leaving : may_leave (arena_of p.shapes l) a own o ≡ true

abbrev pub WhatIsDueFits : Type 0
WhatIsDueFits = (p : Program) (l : Layout) (a : ℕ) (t : Progress) (es : List (Entry Op)) (o : Op) → WellFormed p → LaysOut p l → AreTurns p a t → KeepsPlace p a t es → op_due p t.next ≡ Some o → FitsOwnEntries p l a (by a es) o

-- A processor keeps its place among its turns: as it opens; by an entry with which it begins what is due; and by each entry with which it begins nothing, or which is another's.
pub record PlacesAreKept (p : Program) (a : ℕ) : Type 0 where
  pub opens : (first : Next) → to_come p a first ≡ turns_of p a → KeepsPlace p a (opening_progress first) []
  pub begins : (t : Progress) (es : List (Entry Op)) (e : Entry Op) (o : Op) (new : Next) → WellFormed p → AreTurns p a t → KeepsPlace p a t es → e.actor ≡ a → e.begun ≡ Some o → op_due p t.next ≡ Some o → Follows p a t.next o new → KeepsPlace p a (progress_after t (Some o) new) (e ∷ es)
  pub goes_on : (t : Progress) (es : List (Entry Op)) (e : Entry Op) → KeepsPlace p a t es → e.begun ≡ None → KeepsPlace p a t (e ∷ es)
  pub others : (t : Progress) (es : List (Entry Op)) (e : Entry Op) → KeepsPlace p a t es → (e.actor ≡ a → ⊥) → KeepsPlace p a t (e ∷ es)

abbrev pub EachKeepsItsPlace : Type 0
EachKeepsItsPlace = (p : Program) (a : ℕ) → PlacesAreKept p a
