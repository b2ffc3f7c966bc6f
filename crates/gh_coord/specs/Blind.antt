-- The stores of the coordinator and of its parts are blind.
use Rattle.std.proofs.Common.{arith, ◌≡◌, ℕ, true}
use Rattle.gh_coord.specs.Vocabulary.{CoordStage, Layout}
use Rattle.gh_base.specs.Blind.{is_store, StoresAreBlind}
use Rattle.gh_coord.specs.Listing.{asks, asks_at, Coordinating, counted, goes, goes_at}

-- the coordinator that asks, and the same once it has counted the step
blind_at : (l : Layout) (s m : Coordinating) (stage : CoordStage) (found other : ℕ) → is_store (asks_at l s stage) ≡ true → goes_at l m stage found ≡ goes_at l m stage other
blind_at l s m stage found other e = grind arith

pub blind : (l : Layout) → StoresAreBlind (asks l) (goes l)
blind l s found other e = blind_at l s (counted s) s.stage found other e
