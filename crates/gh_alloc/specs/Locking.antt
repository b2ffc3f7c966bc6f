-- A search writes page words with the heap's lock alone, and frees the lock before it ends.
use Rattle.std.specs.Prelude.{ℕ, zero, suc, Bool, true, false, ◌==◌, if◌then◌else◌}
use Rattle.gh_alloc.specs.Vocabulary.{Ask, Store, Swap, told}
use Rattle.gh_base.specs.declared.cell.Cell.TheVariants.{Lock}
use Rattle.gh_base.specs.Routines.{Listing}

-- it has the lock after a step that found this: it takes it by a swap that found 0, and frees it by a store
abbrev pub lock_after : Bool → Ask → ℕ → Bool
lock_after held (Swap Lock old new) found = if found == 0 then true else held
lock_after held (Store Lock value) found = false
lock_after held _ found = held

module _ {M Out : Type 0} (r : Listing M Out) (m : M) (found : ℕ → ℕ) where
  -- it has the lock after so many steps
  abbrev pub holds : ℕ → Bool
  holds zero = false
  holds (suc n) = lock_after (holds n) (r.asks (told r m found n)) (found n)
