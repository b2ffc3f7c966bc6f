-- What the scan of a stack does: the references of its registers are shaded, in order and each once, and then it makes its only step.
use Rattle.std.specs.Prelude.{◌≡◌, ℕ, zero, suc, ◌<◌, true, false, List, [], ◌∷◌, length, slice_index, Some, None}
use Rattle.gh_stack.specs.Vocabulary.{Scanned, Value}
use Rattle.gh_base.specs.declared.cell.Ask.TheVariants.{Store}
use Rattle.gh_stack.specs.Listing.{asks, gives, goes, is_busy, opening, StackScan, told_shaded, wish_of}

-- the references among these values, in their order
abbrev pub references : List Value → List ℕ
references [] = []
references (Value.Ref reference ∷ values) = reference ∷ references values
references (Value.Nil ∷ values) = references values
references (Value.Int n ∷ values) = references values

-- once it was told so many times that its wish is shaded
abbrev pub shaded_times : StackScan → ℕ → StackScan
shaded_times s zero = s
shaded_times s (suc n) = shaded_times (told_shaded s) n

module _ (goroutine cycle : ℕ) (registers : List Value) where
  abbrev from : StackScan
  from = opening goroutine cycle registers

  pub record ScansStack : Type 0 where
    -- its wishes are the references of the registers, one after the other; it asks for no step meanwhile
    pub wishes : (n : ℕ) → n < length (references registers) → wish_of (shaded_times from n).stage ≡ Some (slice_index (references registers) n)
    pub waits : (n : ℕ) → n < length (references registers) → is_busy (shaded_times from n).stage ≡ false
    -- once each is shaded, and not before, it wishes no more, and its only step stores the cycle
    pub no_more : wish_of (shaded_times from (length (references registers))).stage ≡ None
    pub busy : is_busy (shaded_times from (length (references registers))).stage ≡ true
    pub stores : asks (shaded_times from (length (references registers))) ≡ Store (Scanned goroutine) cycle
    pub gives_then : (found : ℕ) → gives (shaded_times from (length (references registers))) found ≡ Some tt
    pub over : (found : ℕ) → is_busy (goes (shaded_times from (length (references registers))) found).stage ≡ false

abbrev pub StacksAreScanned : Type 0
StacksAreScanned = (goroutine cycle : ℕ) (registers : List Value) → ScansStack goroutine cycle registers
