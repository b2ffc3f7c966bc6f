-- A worker is a routine, what its steps write and leave, and that each is on a word that there is.
use Rattle.std.specs.Prelude.{◌≡◌, ℕ, ◌≤◌, false, Some, None}
use Rattle.gh_worker.specs.Vocabulary.{Add, Ask, Cell, cell_of, effect, Footprint, IsRoutine, Layout, row_of, Store, Words, Writes}
use Rattle.gh_base.specs.Cells.{InRange}
use Rattle.gh_phase.specs.Listing as resume
use Rattle.gh_scan.specs.Listing as scan
use Rattle.gh_sweep.specs.Listing as sweep
use Rattle.gh_worker.specs.Handshake.{Sound}
use Rattle.gh_worker.specs.Listing.{asks, goes, opening, sweep_in, Working}
use Rattle.gh_worker.specs.Sound.{IsWorkersSeat, listing, marks, SoundWorking, StandsWithin, writes}
use Rattle.gh_worker.specs.Writing.{IsCalm}

-- A step of a worker that sweeps no span: it loads, or writes marks, buffers and their entries; it claims the next global; it hands over words to the bank of credit; or it acknowledges for its own seat.
pub data OwnStep (seat : ℕ) (step : Ask) : Type 0 where
  shades : Writes scan.writes step → OwnStep seat step
  claims : step ≡ Add Cell.Gcur 1 → OwnStep seat step
  hands_over : (words : ℕ) → step ≡ Add Cell.Bank words → OwnStep seat step
  acknowledges : (stops : ℕ) → step ≡ Store (Cell.Ack seat) stops → OwnStep seat step

-- each word of another row stays, whatever the words are
abbrev pub LeavesOthers : Footprint → Ask → Type 0
LeavesOthers f step = (words : Words) (c : Cell) → f (row_of c) ≡ false → effect words step c ≡ words c

-- the step writes these rows alone
pub record WritesAlone (f : Footprint) (step : Ask) : Type 0 where
  pub writes : Writes f step
  pub leaves : LeavesOthers f step

pub record WorkersAreRoutines : Type 0 where
  pub is_routine : (l : Layout) → IsRoutine l (listing l)
  -- it is sound before its first step
  pub opens : (l : Layout) (seat : ℕ) → IsWorkersSeat l seat → SoundWorking l (opening seat)
  -- what it writes, at any stage, in a sweep, in none, and at rest
  pub alone : (l : Layout) (w : Working) → WritesAlone writes (asks l w)
  pub sweeps_alone : (l : Layout) (w : Working) (sw : sweep.Sweeping) → sweep_in w ≡ Some sw → WritesAlone sweep.writes (asks l w)
  pub marks_alone : (l : Layout) (w : Working) → sweep_in w ≡ None → WritesAlone marks (asks l w)
  pub rests_alone : (l : Layout) (w : Working) → IsCalm w → sweep_in w ≡ None → WritesAlone resume.writes (asks l w)
  pub own_step : (l : Layout) (w : Working) → Sound w → sweep_in w ≡ None → OwnStep w.seat (asks l w)

-- whatever is found, be it no word of 64 bits, each of its steps is on a word that there is
pub record WorkersStayWithin : Type 0 where
  pub at_first : (l : Layout) (seat : ℕ) → 1 ≤ l.pages → IsWorkersSeat l seat → StandsWithin l (opening seat)
  pub stays : (l : Layout) (w : Working) (found : ℕ) → StandsWithin l w → StandsWithin l (goes l w found)
  pub within : (l : Layout) (w : Working) → StandsWithin l w → InRange l (cell_of (asks l w))
