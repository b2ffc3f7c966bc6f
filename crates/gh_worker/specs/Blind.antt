-- The stores of a worker are blind.
use Rattle.std.proofs.Common.{arith, ◌≡◌, ℕ, true}
use Rattle.gh_worker.specs.Vocabulary.{Layout, WorkerStage}
use Rattle.gh_base.specs.Blind.{is_store, StoresAreBlind}
use Rattle.gh_worker.specs.Listing.{asks, asks_at, goes, goes_at, Working}

blind_at : (l : Layout) (w : Working) (stage : WorkerStage) (found other : ℕ) → is_store (asks_at l w stage) ≡ true → goes_at l w stage found ≡ goes_at l w stage other
blind_at l w stage found other e = grind arith

pub blind : (l : Layout) → StoresAreBlind (asks l) (goes l)
blind l w found other e = blind_at l w w.stage found other e
