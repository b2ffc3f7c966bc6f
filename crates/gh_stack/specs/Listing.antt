-- The scan of a stack: what is wished and asked for at each stage, where that leads, and what it gives.
use Rattle.std.specs.Prelude.{ℕ, ◌+◌, Bool, true, false, List, [], ◌∷◌, drop, Option, Some, None, is_none}
use Rattle.gh_stack.specs.Vocabulary.{Ended, Layout, Scanned, ScanStack, Shade, StackStage, Store, Touch, Value}
use Rattle.gh_base.specs.declared.cell.Ask.{Ask}
use Rattle.gh_base.specs.Footprints.{Footprint}
use Rattle.gh_base.specs.Footprints as row
use Rattle.gh_base.specs.Machines.{Listing}
use Rattle.gh_stack.specs.Sound.{SoundStackScan}

-- the scan of a goroutine's stack in a cycle: the registers, and its stage
abbrev pub StackScan : Type 0
StackScan = ScanStack

-- the first of these registers, numbered from here on, that holds a reference; where none does, the store
abbrev pub first_reference : (register : ℕ) → List Value → StackStage
first_reference register [] = Store
first_reference register (Value.Ref reference ∷ values) = Shade register reference
first_reference register (Value.Nil ∷ values) = first_reference (register + 1) values
first_reference register (Value.Int n ∷ values) = first_reference (register + 1) values

-- so from this register on
abbrev pub shade_stage_from : List Value → (register : ℕ) → StackStage
shade_stage_from registers register = first_reference register (drop register registers)

abbrev pub opening : (goroutine cycle : ℕ) → List Value → StackScan
opening goroutine cycle registers = record { goroutine = goroutine; cycle = cycle; registers = registers; stage = shade_stage_from registers 0 }

abbrev pub at_stage : StackScan → StackStage → StackScan
at_stage s stage = record s { stage = stage }

-- what it wishes to be shaded
abbrev pub wish_of : StackStage → Option ℕ
wish_of (Shade register reference) = Some reference
wish_of _ = None

abbrev pub is_waiting : StackStage → Bool
is_waiting (Shade register reference) = true
is_waiting _ = false

-- and where it goes once that is shaded
abbrev pub after_shade : List Value → StackStage → StackStage
after_shade registers (Shade register reference) = shade_stage_from registers (register + 1)
after_shade registers stage = stage

abbrev pub told_shaded : StackScan → StackScan
told_shaded s = at_stage s (after_shade s.registers s.stage)

module _ (s : StackScan) where
  abbrev pub asks_at : StackStage → Ask
  asks_at Store = Ask.Store (Scanned s.goroutine) s.cycle
  asks_at _ = Ask.Load Touch

  abbrev pub goes_at : StackStage → StackScan
  goes_at (Shade register reference) = at_stage s (Shade register reference)
  goes_at _ = at_stage s Ended

-- it has given nothing where its step is next; while it waits it asks for none
abbrev pub given_at : StackStage → Option (Unit {0})
given_at Store = None
given_at _ = Some tt

abbrev pub is_busy : StackStage → Bool
is_busy stage = is_none (given_at stage)

abbrev pub asks : StackScan → Ask
asks s = asks_at s s.stage

abbrev pub goes : StackScan → ℕ → StackScan
goes s found = goes_at s s.stage

abbrev pub given : StackScan → Option (Unit {0})
given s = given_at s.stage

abbrev pub gives : StackScan → ℕ → Option (Unit {0})
gives s found = given (goes s found)

-- it says in which cycle the stack was scanned
abbrev pub writes : Footprint
writes row.Scanned = true
writes _ = false

abbrev pub listing : Layout → Listing StackScan (Unit {0})
listing l = record { asks = asks; goes = goes; given = given; sound = SoundStackScan l; writes = writes }
