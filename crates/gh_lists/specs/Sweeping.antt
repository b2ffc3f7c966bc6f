-- Who sweeps with a step: a worker asks for what its sweep asks for, or runs none, and a processor that rests runs none.
use Rattle.std.proofs.Common.{◌≡◌, ◌⊎◌, inl, inr, refl, None, false, arith}
use Rattle.gh_lists.specs.Vocabulary.{is_busy_at, Layout, Task}
use Rattle.gh_sweep.specs.Listing as sweep
use Rattle.gh_sweep.specs.Listing.{Sweeping}
use Rattle.gh_worker.specs.Listing as worker
use Rattle.gh_lists.specs.LemmaVocabulary.{WorkerStage}
use Rattle.gh_mutator.specs.Sweeping.{sweep_at}

-- it runs no sweep, or asks for what that asks for
pub asks_by_sweep : (l : Layout) (w : worker.Working) (p : WorkerStage) → (worker.sweep_at p ≡ None) ⊎ ((sw : Sweeping) × (worker.asks_at l w p ≡ sweep.asks l sw))
asks_by_sweep l w (WorkerStage.Sweeping sw) = inr (sw, refl)
asks_by_sweep l w _ = inl refl

-- who rests sweeps nothing
pub idle_sweeps_none : (t : Task) → is_busy_at t ≡ false → sweep_at t ≡ None
idle_sweeps_none t idle = grind arith
