-- What the scan of a stack knows of its own numbers, whatever it is told.
use Rattle.std.specs.Prelude.{◌≡◌, ◌<◌, length}
use Rattle.gh_stack.specs.Vocabulary.{Layout, REGISTERS, ScanStack, Shade, StackStage}

-- the register is one of the goroutine's
abbrev pub SoundStage : StackStage → Type 0
SoundStage (Shade register reference) = register < REGISTERS
SoundStage _ = Unit {0}

pub record SoundStackScan (l : Layout) (s : ScanStack) : Type 0 where
  pub goroutine : s.goroutine < l.goroutines
  pub registers : length s.registers ≡ REGISTERS
  pub stage : SoundStage s.stage
