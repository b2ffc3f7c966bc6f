-- A worker has given nothing exactly where it asks for a further step.
use Rattle.std.specs.Prelude.{◌≡◌, ℕ, true, ◌↔◌, IsNone}
use Rattle.gh_worker.specs.Vocabulary.{Layout}
use Rattle.gh_base.specs.Given.{is_over}
use Rattle.gh_worker.specs.Listing.{given, goes, is_busy, Working}

pub ends : (l : Layout) (w : Working) (found : ℕ) → is_busy w.stage ≡ true → IsNone (given (goes l w found)) ↔ (is_busy (goes l w found).stage ≡ true)
ends l w found busy = is_over (given (goes l w found))
