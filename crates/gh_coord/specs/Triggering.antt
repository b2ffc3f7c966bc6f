-- The trigger that the coordinator stores is by what it has read of the sweep: said by the words, whatever it is told.
use Rattle.std.specs.Prelude.{◌≡◌, ◌≢◌, ◌≤◌, ℕ, ◌⊎◌, true, Option, Some, None}
use Rattle.gh_coord.specs.Vocabulary.{Layout, Live, Load, NEVER, Store, Tally, Trigger}
use Rattle.gh_coord.specs.Listing.{asks, Coordinating, goes, is_busy, opening}
use Rattle.gh_coord.specs.Pacing.{next_goal, next_trigger, taken_bytes}

-- Behind a step that loaded the live bytes: the trigger is by what that found. Behind the one that clears them, where a cycle is opened, it is never reached.
abbrev pub IsTrigger : Layout → Coordinating → (found value : ℕ) → Type 0
IsTrigger l s found value = ((asks l s ≡ Load Live) × (value ≡ next_trigger l s.gogc s.minheap found)) ⊎ ((asks l s ≡ Store Live 0) × (value ≡ NEVER))

-- From what is live to the goal; without a goal, where no heap reaches.
abbrev pub LiesUpToGoal : (live : ℕ) → (goal : Option ℕ) → (value : ℕ) → Type 0
LiesUpToGoal live None value = value ≡ NEVER
LiesUpToGoal live (Some most) value = (live ≤ value) × (value ≤ most)

pub record TheTriggerIsByWhatIsLive : Type 0 where
  pub stores : (l : Layout) (s : Coordinating) (found value : ℕ) → is_busy s.stage ≡ true → asks l (goes l s found) ≡ Store Trigger value → IsTrigger l s found value
  -- behind a step that loaded the live bytes it lies between these and the goal that is by them
  pub lies : (l : Layout) (s : Coordinating) (found value : ℕ) → is_busy s.stage ≡ true → asks l s ≡ Load Live → asks l (goes l s found) ≡ Store Trigger value → LiesUpToGoal (taken_bytes found) (next_goal l s.gogc s.minheap found) value
  -- the live bytes are loaded behind the tally
  pub tally_first : (l : Layout) (s : Coordinating) (found : ℕ) → is_busy s.stage ≡ true → asks l (goes l s found) ≡ Load Live → asks l s ≡ Load Tally
  -- and neither is its first step
  pub no_first : (l : Layout) (seat gogc minheap room value : ℕ) → (asks l (opening l seat gogc minheap room) ≢ Store Trigger value) × (asks l (opening l seat gogc minheap room) ≢ Load Live)
