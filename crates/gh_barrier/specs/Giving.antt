-- The writing of a pointer gives nothing before its store.
use Rattle.std.proofs.Common.{arith, ◌≡◌, ℕ, None}
use Rattle.gh_barrier.specs.Vocabulary.{Layout, LoadOld, ShadeNew, ShadeOld}
use Rattle.gh_barrier.specs.Listing.{given, goes_at, Writing}
use Rattle.gh_shade.specs.Listing as shade

pub load_gives_none : (l : Layout) (w : Writing) (found : ℕ) → given (goes_at l w LoadOld found) ≡ None
load_gives_none l w found = grind arith

pub old_gives_none : (l : Layout) (w : Writing) (sh : shade.Shading) (found : ℕ) → given (goes_at l w (ShadeOld sh) found) ≡ None
old_gives_none l w sh found = grind arith

pub new_gives_none : (l : Layout) (w : Writing) (sh : shade.Shading) (found : ℕ) → given (goes_at l w (ShadeNew sh) found) ≡ None
new_gives_none l w sh found = grind arith
