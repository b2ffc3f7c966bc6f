-- That the coordinator asks for a further step as long as it is not done.
use Rattle.std.specs.Prelude.{◌≡◌, ℕ, true, not}
use Rattle.gh_coord.specs.Vocabulary.{Layout}
use Rattle.gh_coord.specs.Listing.{Coordinating, goes, is_busy, is_done_at, opening}

-- it has a further step exactly where it is not done
abbrev pub HasNext : Coordinating → Type 0
HasNext s = is_busy s.stage ≡ not (is_done_at s.stage)

pub record GoesOnUntilDone : Type 0 where
  pub at_first : (l : Layout) (seat gogc minheap room : ℕ) → HasNext (opening l seat gogc minheap room)
  -- a step keeps it
  pub step : (l : Layout) (s : Coordinating) (found : ℕ) → is_busy s.stage ≡ true → HasNext (goes l s found)
