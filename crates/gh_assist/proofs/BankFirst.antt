-- An assist tries the bank once, before it takes a grey object: by its stages. Behind the try it is at none that is before it or draws.
use Rattle.std.proofs.Common.{◌≡◌, ◌≢◌, ◌⊎◌, ℕ, zero, suc, ◌-◌, ◌≤◌, min, Option, inl, inr, refl, arith}
use Rattle.std.proofs.lemmas.Bool.Decides.{nat_tests}
use Rattle.gh_assist.proofs.Vocabulary.{Assisting, AssistStage, draws_if_owed, Held, Layout}
use Rattle.gh_base.specs.declared.cell.Ask.TheVariants.{Load, Swap}
use Rattle.gh_base.specs.declared.cell.Cell.{Cell}
use Rattle.gh_base.specs.Steps.{cell_of}
use Rattle.gh_scan.specs.Listing as scan
use Rattle.gh_wbuf.specs.EntryTaking as take
use Rattle.gh_assist.specs.BankFirst.{AssistsTryTheBankFirst, before, IsOfBuffers, TriesTheBankFirst}
use Rattle.gh_assist.specs.Listing as assist

-- it takes a grey object, scans one, or has ended
abbrev IsBehindBank : AssistStage → Type 0
IsBehindBank (AssistStage.Taking t) = Unit {0}
IsBehindBank (AssistStage.Scanning m) = Unit {0}
IsBehindBank AssistStage.Ended = Unit {0}
IsBehindBank _ = ⊥

take_behind : (x : Assisting) (t : take.EntryTaking) (out : Option (Option ℕ)) → IsBehindBank (assist.after_take x t out).stage
take_behind x t out = grind arith

scan_behind : (x : Assisting) (m : scan.Scanning) (out : Option ℕ) → IsBehindBank (assist.after_scan x m out).stage
scan_behind x m out = grind arith

module _ (l : Layout) where
  goes_behind : (x : Assisting) (p : AssistStage) (found : ℕ) → IsBehindBank p → IsBehindBank (assist.goes_at l x p found).stage
  goes_behind x p found b = grind (arith, take_behind, scan_behind)

  off_bank : (p : AssistStage) → IsBehindBank p → cell_of (assist.asks_at l p) ≢ Cell.Bank
  off_bank p b e = grind arith

  -- its steps where the debt is known: the look, and the try
  module _ (x : Assisting) where
    looks_at : x.owed ≢ 0 → assist.asks l (draws_if_owed x) ≡ Load Cell.Bank
    looks_at some = grind (arith, nat_tests)

    off_buffers : IsOfBuffers (cell_of (assist.asks l (draws_if_owed x))) → ⊥
    off_buffers b = grind arith

    tries_at : (bank : ℕ) → x.owed ≢ 0 → bank ≢ 0 → assist.asks l (assist.goes l (draws_if_owed x) bank) ≡ Swap Cell.Bank bank (bank - min bank x.owed)
    tries_at bank some held = grind (arith, nat_tests)

    try_off_buffers : (bank : ℕ) → bank ≢ 0 → IsOfBuffers (cell_of (assist.asks l (assist.goes l (draws_if_owed x) bank))) → ⊥
    try_off_buffers bank held b = grind (arith, nat_tests)

    nothing_there : (bank : ℕ) → bank ≡ 0 → IsBehindBank (assist.goes l (draws_if_owed x) bank).stage
    nothing_there bank none = grind (arith, nat_tests)

    tried : (bank found : ℕ) → IsBehindBank (assist.goes l (assist.goes l (draws_if_owed x) bank) found).stage
    tried bank found = grind (arith, nat_tests)

module _ (l : Layout) (seat : ℕ) (held : Option Held) (bytes owed spent : ℕ) (found : ℕ → ℕ) where
  abbrev from : Assisting
  from = assist.opening seat held bytes owed spent

  -- by what its two loads found
  abbrev owing : Assisting
  owing = assist.owing (assist.at_stage from (AssistStage.LoadSlack (assist.work_in (found 0)))) (assist.work_in (found 0)) (found 1)

  behind : (n : ℕ) → IsBehindBank (before l from found (suc (suc (suc (suc n))))).stage
  behind zero = tried l owing (found 2) (found 3)
  behind (suc n) = goes_behind l (before l from found (suc (suc (suc (suc n))))) (before l from found (suc (suc (suc (suc n))))).stage (found (suc (suc (suc (suc n))))) (behind n)

  once : (n : ℕ) → cell_of (assist.asks l (before l from found n)) ≡ Cell.Bank → (n ≡ 2) ⊎ ((n ≡ 3) × (found 2 ≢ 0))
  once zero e = absurd (cc)
  once (suc zero) e = absurd (cc)
  once (suc (suc zero)) e = inl refl
  once (suc (suc (suc zero))) e = inr (refl, λ none. off_bank l (before l from found 3).stage (nothing_there l owing (found 2) none) e)
  once (suc (suc (suc (suc n)))) e = absurd (off_bank l (before l from found (suc (suc (suc (suc n))))).stage (behind n) e)

  first : (n : ℕ) → IsOfBuffers (cell_of (assist.asks l (before l from found n))) → (3 ≤ n) × (found 2 ≢ 0 → 4 ≤ n)
  first zero b = absurd b
  first (suc zero) b = absurd b
  first (suc (suc zero)) b = absurd (off_buffers l owing b)
  first (suc (suc (suc zero))) b = (omega arith, λ some. absurd (try_off_buffers l owing (found 2) some b))
  first (suc (suc (suc (suc n)))) b = (omega arith, λ some. omega arith)

  pub tries_first : TriesTheBankFirst l from found
  tries_first = record { looks = looks_at l owing; tries = λ some bank. tries_at l owing (found 2) some bank; once = once; first = first }

pub assists_try_the_bank_first : AssistsTryTheBankFirst
assists_try_the_bank_first l seat held bytes owed spent found = tries_first l seat held bytes owed spent found
