-- Where the making of an object tells that a cycle is to be asked for: exactly where the heap's bytes, with the object's, reach the trigger, as it finds the two while marking is off.
use Rattle.std.specs.Prelude.{◌≡◌, ℕ, ◌+◌, ◌*◌, ◌%◌, ◌^◌, ◌≤◌, true, false, Some}
use Rattle.gh_alloc.specs.Vocabulary.{Add, Count, Heap, Layout, Load, LoadTrigger, Trigger}
use Rattle.gh_alloc.specs.Place.{Placing, asks, gives, goes}

-- it adds the object's bytes while marking is off, and the heap has so many with them, by what the step finds
pub record CountsUpTo (p : Placing) (found bytes : ℕ) : Type 0 where
  pub off : p.marking ≡ false
  pub stage : p.stage ≡ Count
  pub adds : (l : Layout) → asks l p ≡ Add Heap (8 * p.slot)
  pub bytes_are : bytes ≡ (found + 8 * p.slot) % 2 ^ 64

-- it loads the trigger, which so many bytes reach
pub record SeesReached (p : Placing) (found bytes : ℕ) : Type 0 where
  pub stage : p.stage ≡ LoadTrigger bytes
  pub loads : (l : Layout) → asks l p ≡ Load Trigger
  pub reached : found ≤ bytes

-- whatever it is told
pub record AnObjectAsksAtTheTrigger : Type 0 where
  -- it tells so by no other step
  pub asks_there : (p : Placing) (found : ℕ) → gives p found ≡ Some true → (bytes : ℕ) × SeesReached p found bytes
  pub compares : (p : Placing) (found bytes : ℕ) → (goes p found).stage ≡ LoadTrigger bytes → CountsUpTo p found bytes
  -- and by each such
  pub asks_then : (p : Placing) (found bytes : ℕ) → SeesReached p found bytes → gives p found ≡ Some true
  pub compares_then : (p : Placing) (found bytes : ℕ) → CountsUpTo p found bytes → (goes p found).stage ≡ LoadTrigger bytes
