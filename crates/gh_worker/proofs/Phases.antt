-- What a worker finds before it leaves, and before it marks.
use Rattle.std.proofs.Common.{◌≡◌, ℕ, true, ◌⊎◌, Some, arith}
use Rattle.gh_worker.proofs.Vocabulary.{asks_at, Cell, FindsMarking, goes_at, is_busy, IsLeaving, IsMarking, Layout, Load, phase_of, run_phase, WorkerStage, Working}
use Rattle.gh_phase.specs.declared.view.RunPhase.{RunPhase}

module _ (l : Layout) (found : ℕ) (w : Working) where
  pub leaves_at : (p : WorkerStage) → is_busy p ≡ true → IsLeaving (goes_at l w p found).stage → IsLeaving p ⊎ ((asks_at l w p ≡ Load Cell.Phase) × (run_phase (phase_of found).phase ≡ Some RunPhase.Finished))
  leaves_at p busy x = grind arith

  pub marks_at : (p : WorkerStage) → is_busy p ≡ true → IsMarking (goes_at l w p found).stage → FindsMarking found w p (goes_at l w p found)
  marks_at p busy x = record { view_stays = grind arith; finds = grind arith }
