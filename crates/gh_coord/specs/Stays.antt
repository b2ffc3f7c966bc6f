-- What a step of the coordinator leaves: the room for cycles. And that it has given nothing exactly where it asks for a further step.
use Rattle.std.proofs.Common.{arith, ◌≡◌, ℕ, true, ◌↔◌, is_none, IsNone}
use Rattle.gh_coord.specs.Vocabulary.{CoordStage, Layout}
use Rattle.gh_coord.specs.Events.{by_event}
use Rattle.gh_coord.specs.Listing.{Coordinating, counted, given, given_at, goes, goes_at, is_busy}

-- where it asks for a step it has given nothing
pub gives_nothing : (p : CoordStage) → is_busy p ≡ true → is_none (given_at p) ≡ true
gives_nothing p busy = grind arith

-- a part that has given nothing asks for a further step
ends_at : (l : Layout) (u : Coordinating) (p : CoordStage) (found : ℕ) → is_busy p ≡ true → IsNone (given (goes_at l u p found)) ↔ (is_busy (goes_at l u p found).stage ≡ true)
ends_at l u p found busy = by_event l u found (λ (to : Coordinating). IsNone (given to) ↔ (is_busy to.stage ≡ true)) p (λ e may. grind arith)

pub ends : (l : Layout) (s : Coordinating) (found : ℕ) → is_busy s.stage ≡ true → IsNone (given (goes l s found)) ↔ (is_busy (goes l s found).stage ≡ true)
ends l s found busy = ends_at l (counted s) s.stage found busy

pub cycle_room_stays : (l : Layout) (s : Coordinating) (found : ℕ) → (goes l s found).cycles.room ≡ s.cycles.room
cycle_room_stays l s found = grind arith
