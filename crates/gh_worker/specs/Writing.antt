-- Which words a worker writes, and when it writes none of marking.
use Rattle.std.specs.Prelude.{◌≡◌, ℕ, ◌⊎◌, true, None}
use Rattle.gh_worker.specs.Vocabulary.{Add, And, Ask, Cell, Done, Layout, Leave, Load, LoadPage, LoadPhase, Or, Resuming, Store, Swap, Sweeping, WorkerStage}
use Rattle.gh_phase.specs.Listing as resume
use Rattle.gh_worker.specs.Handshake.{IsMarking, Sound}
use Rattle.gh_worker.specs.Listing.{asks, goes, is_busy, opening, sweep_in, Working}

-- a word of a buffer, an entry of one, a word of marks, or this seat's acknowledgement
abbrev pub IsWritten : (seat : ℕ) → Cell → Type 0
IsWritten seat (Cell.Buffer b) = Unit {0}
IsWritten seat (Cell.Entry b j) = Unit {0}
IsWritten seat (Cell.Mark i) = Unit {0}
IsWritten seat (Cell.Ack a) = a ≡ seat
IsWritten seat _ = ⊥

-- a load; or a write of one of these; or the cursor is moved by one global, or words are added to the bank of credit
abbrev pub WritesItsOwn : (seat : ℕ) → Ask → Type 0
WritesItsOwn seat (Load c) = Unit {0}
WritesItsOwn seat (Store c value) = IsWritten seat c
WritesItsOwn seat (Or c bits) = IsWritten seat c
WritesItsOwn seat (And c bits) = IsWritten seat c
WritesItsOwn seat (Add c more) = ((c ≡ Cell.Gcur) × (more ≡ 1)) ⊎ (c ≡ Cell.Bank)
WritesItsOwn seat (Swap c old new) = IsWritten seat c

abbrev pub WorkersWriteTheirOwn : Type 0
WorkersWriteTheirOwn = (l : Layout) (w : Working) → Sound w → sweep_in w ≡ None → is_busy w.stage ≡ true → WritesItsOwn w.seat (asks l w)

-- it loads the phase or a page, sweeps, goes on after a stop, or leaves
abbrev pub IsOutsideMarking : WorkerStage → Type 0
IsOutsideMarking LoadPhase = Unit {0}
IsOutsideMarking LoadPage = Unit {0}
IsOutsideMarking (Sweeping sw) = Unit {0}
IsOutsideMarking (Resuming r) = Unit {0}
IsOutsideMarking Leave = Unit {0}
IsOutsideMarking Done = Unit {0}
IsOutsideMarking _ = ⊥

-- it marks nothing, holds no buffer, and has nothing to hand over
pub record IsCalm (w : Working) : Type 0 where
  pub none : w.held ≡ None
  pub handed : w.scan_work ≡ 0
  pub rests : IsOutsideMarking w.stage

-- a load, or a store of this seat's acknowledgement
abbrev pub AcksAlone : (seat : ℕ) → Ask → Type 0
AcksAlone seat (Load c) = Unit {0}
AcksAlone seat (Store (Cell.Ack a) value) = a ≡ seat
AcksAlone seat _ = ⊥

pub record CalmWorkersMarkNothing : Type 0 where
  pub at_first : (seat : ℕ) → IsCalm (opening seat)
  -- while it goes on after a stop it is calm
  pub after_stop : (w : Working) (r : resume.Resuming) → Sound w → w.stage ≡ Resuming r → IsCalm w
  -- and it stays so until it finds that marking is on
  pub stays : (l : Layout) (w : Working) (found : ℕ) → IsCalm w → is_busy w.stage ≡ true → IsCalm (goes l w found) ⊎ IsMarking (goes l w found).stage
  -- while it runs no sweep it writes its acknowledgement and nothing else
  pub writes : (l : Layout) (w : Working) → Sound w → IsCalm w → sweep_in w ≡ None → is_busy w.stage ≡ true → AcksAlone w.seat (asks l w)
