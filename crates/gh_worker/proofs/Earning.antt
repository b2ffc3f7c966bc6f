-- Each word that a worker has scanned is handed over once, or still to be: step by step.
use Rattle.std.proofs.Common.{◌≡◌, ℕ, ◌+◌, ◌^◌, ◌<◌, true, refl, arith}
use Rattle.gh_worker.proofs.Vocabulary.{Ask, asks_at, EarnStage, goes_at, is_busy, Layout, SoundAt, SweepStage, words_done, WorkerStage, Working}
use Rattle.gh_credit.specs.Earning as earn
use Rattle.gh_credit.specs.Earning.{handed_by, LeavesOrAdds}
use Rattle.gh_sweep.specs.Listing as sweep
use Rattle.gh_worker.specs.Earning.{WorkersEarn}
use Rattle.gh_worker.proofs.Counting.{IsEarning, step_so}
use Rattle.gh_worker.proofs.Writing.{WritesPlainly}

-- What its steps add to the bank: none but the steps that hand over.
plain_none : (seat : ℕ) (step : Ask) → WritesPlainly seat step → handed_by step ≡ 0
plain_none seat step x = grind arith

sweep_none : (l : Layout) (sw : sweep.Sweeping) (p : SweepStage) → handed_by (sweep.asks_at l sw p) ≡ 0
sweep_none l sw p = grind arith

hands_over : (e : earn.Earning) (p : EarnStage) → earn.is_busy p ≡ true → handed_by (earn.asks_at e p) ≡ e.words
hands_over e p b = grind arith

module _ (l : Layout) (w : Working) (found : ℕ) where
  -- the counts are within their type behind the step
  abbrev IsWithin : WorkerStage → Type 0
  IsWithin p = w.earned + w.scan_work + words_done l p found < 2 ^ 64

  keeps_at : (p : WorkerStage) → IsWithin p → (goes_at l w p found).earned + (goes_at l w p found).scan_work ≡ w.earned + w.scan_work + words_done l p found
  keeps_at p = step_so l w (λ d marks scan_work earned. w.earned + w.scan_work + d < 2 ^ 64 → earned + scan_work ≡ w.earned + w.scan_work + d) (λ b. omega arith) (λ d b. omega (arith, b)) p found (λ e b. omega (arith, b))

  plain : (p : WorkerStage) → (IsEarning p → ⊥) → handed_by (asks_at l w p) ≡ 0 → (goes_at l w p found).earned ≡ w.earned + handed_by (asks_at l w p)
  plain p other none =
      let stays : (goes_at l w p found).earned ≡ w.earned = step_so l w (λ d marks scan_work earned. earned ≡ w.earned) refl (λ d. refl) p found (λ e. absurd (other e)) in
      omega (arith, stays, none)

  counts_at : (p : WorkerStage) → SoundAt w p → is_busy p ≡ true → IsWithin p → (goes_at l w p found).earned ≡ w.earned + handed_by (asks_at l w p)
  counts_at p s b lt = grind (arith, hands_over, plain, plain_none, sweep_none)

adds_at : (l : Layout) (w : Working) (p : WorkerStage) → SoundAt w p → is_busy p ≡ true → LeavesOrAdds (asks_at l w p)
adds_at l w p s b = grind arith

pub earns : WorkersEarn
earns = record {
  at_first = λ seat. (refl, refl);
  earns = λ l w found s b lt. record { counts = counts_at l w found w.stage s b lt; keeps = keeps_at l w found w.stage lt };
  adds = λ l w s b. adds_at l w w.stage s b;
}
