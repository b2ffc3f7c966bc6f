-- There is room for both objects, whatever is told: with an entry free shading never wishes for room, and it takes one at the most.
use Rattle.std.proofs.Common.{◌≡◌, ◌≢◌, ℕ, true, Option, Some, None, arith}
use Rattle.gh_barrier.proofs.Vocabulary.{gives, HasPlace, HasTwo, Held, Shading, WantsRoom}
use Rattle.gh_shade.specs.Listing.{goes, is_busy}

pub held-stays : (sh : Shading) (found : ℕ) → gives sh found ≡ None → (goes sh found).held ≡ sh.held
held-stays sh found e = grind arith

pub place-of : (held : Option Held) → HasTwo held → HasPlace held
place-of held two = grind arith

-- one is left for the second behind the first
pub place-then : (sh : Shading) (found : ℕ) → HasTwo sh.held → HasPlace (goes sh found).held
place-then sh found two = grind arith

pub never-wants : (sh : Shading) (found : ℕ) → is_busy sh.stage ≡ true → HasPlace sh.held → gives sh found ≢ Some WantsRoom
never-wants sh found busy place = grind arith
