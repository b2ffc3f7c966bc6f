-- The registers of goroutines, and what a value is that one holds.
use Rattle.std.specs.Prelude.{ℕ, ◌*◌, ◌<◌, ◌≤◌, Bool, true, false}
use Rattle.gh_poll.specs.Vocabulary.{MOST_GOROUTINES, REGISTERS, Value}

-- the register is one of a goroutine's
abbrev pub IsRegister : (g d : ℕ) → Type 0
IsRegister g d = (g < MOST_GOROUTINES) × (d < REGISTERS)

-- a reference is to a word of the heap
abbrev pub IsNear : (pages : ℕ) → Value → Type 0
IsNear pages (Value.Ref r) = r ≤ 1024 * pages
IsNear pages _ = Unit {0}

abbrev pub is_number_value : Value → Bool
is_number_value (Value.Int n) = true
is_number_value _ = false
