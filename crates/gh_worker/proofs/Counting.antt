-- A worker's counts, step by step.
use Rattle.std.proofs.Common.{◌≡◌, ℕ, zero, suc, ◌+◌, ◌-◌, ◌^◌, arith, min}
use Rattle.gh_worker.proofs.Vocabulary.{after, counted, CountsWords, Earning, EarningAtStop, goes_at, Layout, scanned, words_done, WorkerStage, Working}

-- it hands over what it has scanned
abbrev pub IsEarning : WorkerStage → Type 0
IsEarning (Earning e) = Unit {0}
IsEarning (EarningAtStop e stops) = Unit {0}
IsEarning _ = ⊥

-- What holds of the counts as they are, of those with so many words more, and where it hands over also of those behind that, holds of them behind each step.
module _ (l : Layout) (w : Working) (P : (d marks scan_work earned : ℕ) → Type 0) (same : P 0 w.marks w.scan_work w.earned) (more : (d : ℕ) → P d (counted w.marks d) (counted w.scan_work d) w.earned) where
  abbrev Counts : (d : ℕ) → Working → Type 0
  Counts d to = P d to.marks to.scan_work to.earned

  pub step_so : (stage : WorkerStage) (found : ℕ) → (IsEarning stage → P 0 w.marks 0 (counted w.earned w.scan_work)) → Counts (words_done l stage found) (goes_at l w stage found)
  step_so _ found handed = grind arith

-- the count of so many words
abbrev count : ℕ → ℕ
count words = min words (2 ^ 64 - 1)

none_more : (marks s : ℕ) → marks ≡ count s → marks ≡ count (s + 0)
none_more marks s e = omega arith

more_so : (marks s d : ℕ) → marks ≡ count s → counted marks d ≡ count (s + d)
more_so marks s d e = omega arith

module _ (l : Layout) (seat : ℕ) (found : ℕ → ℕ) where
  counts_so : (n : ℕ) → (after l seat found n).marks ≡ count (scanned l seat found n)
  counts_so zero = omega arith
  counts_so (suc n) =
      let w : Working = after l seat found n in
      let s : ℕ = scanned l seat found n in
      let same : w.marks ≡ count (s + 0) = none_more w.marks s (counts_so n) in
      step_so l w (λ d marks scan_work earned. marks ≡ count (s + d)) same (λ d. more_so w.marks s d (counts_so n)) w.stage (found n) (λ e. same)

  pub counts : CountsWords l seat found
  counts = record { counts = counts_so }
