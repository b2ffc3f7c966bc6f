-- A processor writes none of the numbers of cycles, and the word of a stack by the number that it knows.
use Rattle.std.proofs.Common.{◌≡◌, ℕ, ◌⊎◌, true, List, arith}
use Rattle.gh_lists.specs.Vocabulary.{Add, And, Ask, asks, Cell, END, is_busy_at, IsAwake, IsSound, IsWritten, Layout, Or, Party, party_at, party_of, Processor, ProcessorInHandshake, ProcessorWritesItsOwn, Shape, Stage, stage_of, StageGoes, Store, Swap, Task, WritesOf}
use Rattle.gh_mutator.specs.Listing.{asks_at}
use Rattle.gh_lists.specs.Frames.{LeavesNumbers}

leaves_by : (l : Layout) (m : Processor) (q : Ask) → asks l m ≡ q → WritesOf (IsWritten l m) q → LeavesNumbers q
leaves_by l m q is w = grind arith

-- The word of a stack.

module _ (party : Party) (stage : Stage) where
  -- the end of a goroutine, or the number of the cycle that an awake processor knows
  abbrev pub IsNumberOf : (value : ℕ) → Type 0
  IsNumberOf value = (value ≡ END) ⊎ (IsAwake stage × (value ≡ party.view.begun))

  -- the word of a stack is written by a store of such a number
  abbrev pub NumbersStack : Ask → Type 0
  NumbersStack (Store (Cell.Scanned g) value) = IsNumberOf value
  NumbersStack (Or (Cell.Scanned g) bits) = ⊥
  NumbersStack (And (Cell.Scanned g) bits) = ⊥
  NumbersStack (Add (Cell.Scanned g) more) = ⊥
  NumbersStack (Swap (Cell.Scanned g) old new) = ⊥
  NumbersStack _ = Unit {0}

-- so it is awake then
pub awake_at : (found : ℕ) (from : Party) (s : Stage) (q : Ask) (to : Party) (then : Stage) (g value : ℕ) → q ≡ Store (Cell.Scanned g) value → StageGoes found from s q to then → IsAwake s
awake_at found from s q to then g value is goes = grind arith

-- and what it knows of the phase is what it knows between two polls
module _ (l : Layout) (m : Processor) (g value : ℕ) where
  pub knows_at : (t : Task) → Store (Cell.Scanned g) value ≡ asks_at l m t → (party_at m.poll t).view ≡ m.poll.local.view
  knows_at t is = grind arith

-- so its steps leave the numbers
pub leaves_numbers : ProcessorWritesItsOwn → (l : Layout) (m : Processor) → IsSound l m → LeavesNumbers (asks l m)
leaves_numbers writes l m sound = grind (arith, leaves_by)

module _ (places : ProcessorInHandshake) (writes : ProcessorWritesItsOwn) (l : Layout) (shapes : List Shape) where
  module _ (m : Processor) (sound : IsSound l m) (busy : is_busy_at m.task ≡ true) where
    numbers : (q : Ask) → asks l m ≡ q → WritesOf (IsWritten l m) q → NumbersStack (party_of m) (stage_of m) q
    numbers q is w = grind arith

  pub numbers_stack : (m : Processor) → IsSound l m → is_busy_at m.task ≡ true → NumbersStack (party_of m) (stage_of m) (asks l m)
  numbers_stack m sound busy = grind (arith, numbers)
