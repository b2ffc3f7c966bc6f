-- What holds of the picture of marking: each move of marking is drawn by moves of the picture; a cycle's first picture comes of one as at a cycle's begin; and what the invariants say.
use Rattle.std.specs.Prelude.{◌≡◌, ℕ, ◌+◌, ◌<◌, ◌≤◌}
use Rattle.gh_marks.specs.Vocabulary.{Cell, Invariants, IsMarkingDone, IsOpeningPicture, REGISTERS, Row, Tricolour}
use Rattle.gh_tri.specs.Steps.{Goes}
use Rattle.gh_marks.specs.Colours.{Black, Cycle, IsClean, IsPointer, IsSafe, Scanned, seen_field, seen_global, Shared, rows}
use Rattle.gh_marks.specs.Ends.{IsDone, Opens}
use Rattle.gh_marks.specs.Good.{Good}
use Rattle.gh_marks.specs.Moves.{May, Move, Went, goes, moved, stays}
use Rattle.gh_marks.specs.Shows.{Shows}

-- From the picture of one state these lead to a picture of the other, in which there is room for so many objects more.
pub record IsDrawn (z : Cycle) (t : Shared) (p : Tricolour) (room : ℕ) : Type 0 where
  pub picture : Tricolour
  pub at : Row
  pub goes : Goes p picture
  pub shows : Shows z t at picture
  pub room_left : picture.objects + room ≤ picture.limit

-- Each move of marking is a list of moves of the picture, each of which may be made, and of changes of registers.
abbrev pub EachMoveIsDrawn : Type 0
EachMoveIsDrawn = (z : Cycle) (a : ℕ) (s : Shared) (m : Move) (at : Row) (p : Tricolour) (room : ℕ) → Good z s → May z a s m → Shows z s at p → p.objects + (room + 1) ≤ p.limit → IsDrawn z (moved z a s m) p room

-- how many moves lead there
abbrev pub many : (z : Cycle) (a : ℕ) (s t : Shared) → Went z a s t → ℕ
many z a s t stays = 0
many z a s t (goes u m went may) = many z a s u went + 1

-- and so is each step, of whichever moves it is made
abbrev pub EachStepIsDrawn : Type 0
EachStepIsDrawn = (z : Cycle) (a : ℕ) (s t : Shared) (went : Went z a s t) (at : Row) (p : Tricolour) (room : ℕ) → Good z s → Shows z s at p → p.objects + (room + many z a s t went) ≤ p.limit → IsDrawn z t p room

-- Where a cycle begins it is drawn, from a picture as at a cycle's begin: the stacks of goroutines that have ended are scanned first.
pub record BeginsDrawn (z : Cycle) (s : Shared) (room : ℕ) : Type 0 where
  pub first : Tricolour
  pub opens : IsOpeningPicture first
  pub drawn : IsDrawn z s first room

abbrev pub CyclesBeginDrawn : Type 0
CyclesBeginDrawn = (z : Cycle) (s : Shared) (room : ℕ) → Opens z s → BeginsDrawn z s room

-- What the picture's invariants say of every state: what a scanned global, a field of a black object and a register of a stack that was scanned hold.
pub record ThePictureSays (z : Cycle) (s : Shared) : Type 0 where
  pub globals : (i : ℕ) → i < z.arena.layout.globals → s.progress i ≡ Scanned → IsClean s.colour (seen_global s i)
  pub blacks : (o k : ℕ) → s.colour o ≡ Black → IsPointer s.extents o k → IsClean s.colour (seen_field s (o + k))
  pub stacks : (g d : ℕ) → g < z.arena.layout.goroutines → d < REGISTERS → s.words (Cell.Scanned g) ≡ z.number → IsSafe z.arena.layout.globals (rows s) (s.registers g d)

abbrev pub WhatThePictureSays : Type 0
WhatThePictureSays = (z : Cycle) (s : Shared) → Good z s → ThePictureSays z s

-- where nothing is left to be marked, nothing is in the picture
abbrev pub MarkingEndsDrawn : Type 0
MarkingEndsDrawn = (z : Cycle) (s : Shared) (at : Row) (p : Tricolour) → IsDone z s → Shows z s at p → Invariants p → IsMarkingDone p
