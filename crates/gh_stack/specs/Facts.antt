-- What is known at each stage of the scan of a stack while marking is on. Its goroutine runs no statement meanwhile, so the registers stand still, and those before the one that is shaded are clean. So all are clean where the cycle is stored, and the stack is black then.
use Rattle.std.specs.Prelude.{◌≡◌, ◌≢◌, ℕ, ◌-◌, ◌<◌, ◌≤◌, true, List, length, slice_index_or, Some}
use Rattle.gh_stack.specs.Vocabulary.{Ended, REGISTERS, Shade, StackStage, Store, Value}
use Rattle.gh_base.specs.declared.cell.Cell.{Cell}
use Rattle.gh_base.specs.declared.pack.TheConstants.{END}
use Rattle.gh_base.specs.Rows.{Row}
use Rattle.gh_heap.specs.Rights.{IsOf}
use Rattle.gh_marks.specs.Colours.{Cycle, IsMarked, IsSince, seen_word, Shared}
use Rattle.gh_marks.specs.Good.{Good}
use Rattle.gh_marks.specs.Moves.{Keeps, ScanStack, Steps, moved}
use Rattle.gh_marks.specs.Seats.{CleanBelow}
use Rattle.gh_stack.specs.Listing.{StackScan, asks, opening, told_shaded, wish_of}

-- the object that a value names, as 1 more than its heap word; nil and numbers name none
abbrev pub named : Value → ℕ
named (Value.Ref reference) = reference
named _ = 0

-- the registers of the goroutine name what is seen of these values
pub record AreRegisters (base row : Row) (registers : List Value) : Type 0 where
  pub whole : length registers ≡ REGISTERS
  pub each : (d : ℕ) → d < length registers → row d ≡ seen_word base (named (slice_index_or registers d Value.Nil))
  -- and no reference is 0
  pub some : (d reference : ℕ) → d < length registers → slice_index_or registers d Value.Nil ≡ Value.Ref reference → 1 ≤ reference

-- the register whose reference is shaded, and those before it
pub record IsShading (s : Shared) (g register reference : ℕ) : Type 0 where
  pub within : register < REGISTERS
  pub names : s.registers g register ≡ seen_word s.extents.base reference
  pub some : 1 ≤ reference
  pub before : CleanBelow s.colour (s.registers g) register

abbrev pub StageFacts : Shared → (g : ℕ) → StackStage → Type 0
StageFacts s g (Shade register reference) = IsShading s g register reference
StageFacts s g Store = CleanBelow s.colour (s.registers g) REGISTERS
StageFacts s g Ended = Unit {0}

-- it is the stack of a goroutine of this seat, which goes on, in this cycle
pub record Facts (z : Cycle) (a : ℕ) (s : Shared) (m : StackScan) : Type 0 where
  pub own : IsOf z.arena a m.goroutine
  pub goes_on : s.words (Cell.Scanned m.goroutine) ≢ END
  pub cycle_is : m.cycle ≡ z.number
  pub since : (d : ℕ) → IsSince s.since (s.registers m.goroutine d)
  pub registers_are : AreRegisters s.extents.base (s.registers m.goroutine) m.registers
  pub stage_is : StageFacts s m.goroutine m.stage

-- where it begins
pub record Begins (z : Cycle) (a : ℕ) (s : Shared) (g : ℕ) : Type 0 where
  pub own : IsOf z.arena a g
  pub goes_on : s.words (Cell.Scanned g) ≢ END

-- what it wishes to be shaded names an object of the cycle
pub record IsWish (s : Shared) (reference : ℕ) : Type 0 where
  pub some : 1 ≤ reference
  pub known : s.since (s.extents.base (reference - 1)) ≡ true

pub record StacksAreScannedByMoves : Type 0 where
  pub begins : (z : Cycle) (a : ℕ) (s : Shared) (g : ℕ) (registers : List Value) → Good z s → Begins z a s g → AreRegisters s.extents.base (s.registers g) registers → Facts z a s (opening g z.number registers)
  pub wishes : (z : Cycle) (a : ℕ) (s : Shared) (m : StackScan) (reference : ℕ) → Good z s → Facts z a s m → wish_of m.stage ≡ Some reference → IsWish s reference
  -- once that is marked it goes on
  pub told : (z : Cycle) (a : ℕ) (s : Shared) (m : StackScan) (reference : ℕ) → Facts z a s m → wish_of m.stage ≡ Some reference → IsMarked s.colour (s.extents.base (reference - 1)) → Facts z a s (told_shaded m)
  -- its only step makes the stack black, and changes nothing else
  pub own_step : (z : Cycle) (a : ℕ) (s : Shared) (m : StackScan) → Good z s → Facts z a s m → m.stage ≡ Store → Steps z a s (asks m) (λ t. t ≡ moved z a s (ScanStack m.goroutine))
  -- it lasts under the moves of others, and under those by which the seat shades
  pub lasts : (z : Cycle) (a : ℕ) (s t : Shared) (m : StackScan) → Keeps z a s t → Facts z a s m → Facts z a t m
