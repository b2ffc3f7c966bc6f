-- How an assist pays what is owed, step by step, by the law of the draws.
use Rattle.std.proofs.Common.{◌≡◌, ℕ, ◌+◌, ◌-◌, ◌^◌, ◌<◌, ◌⊎◌, true, false, Option, refl, ap, arith}
use Rattle.gh_assist.proofs.Vocabulary.{Assisting, AssistStage, IsSound, Layout, SoundParts}
use Rattle.gh_credit.specs.Drawing as draw
use Rattle.gh_credit.specs.Drawing.{drawn_by, DrawsCredit, LeavesOrDraws, words_given}
use Rattle.gh_scan.specs.Listing as scan
use Rattle.gh_wbuf.specs.EntryTaking as take
use Rattle.gh_assist.specs.Listing as assist
use Rattle.gh_assist.specs.Paying.{AddsDebt, AssistsPay, FindsNoGreyObject, LoadsDebt, scanned_by}
use Rattle.gh_assist.proofs.Choices.{by_owes}

owes_sound : (x : Assisting) → IsSound (assist.draws_if_owed x)
owes_sound x = by_owes IsSound x (λ e. tt) (refl, refl)

draw_sound : (x : Assisting) (d : draw.Drawing) (out : Option ℕ) → draw.given d ≡ out → d.owed ≡ x.owed → IsSound (assist.after_draw x d out)
draw_sound x d out e same = grind arith

take_sound : (x : Assisting) (t : take.EntryTaking) (out : Option (Option ℕ)) → take.given t ≡ out → IsSound (assist.after_take x t out)
take_sound x t out e = grind arith

scan_sound : (x : Assisting) (m : scan.Scanning) (out : Option ℕ) → scan.given m ≡ out → IsSound (assist.after_scan x m out)
scan_sound x m out e = grind arith

sound_at : (l : Layout) (x : Assisting) (p : AssistStage) (found : ℕ) → SoundParts x.owed p → IsSound (assist.goes_at l x p found)
sound_at l x p found s = grind (arith, draw_sound, owes_sound, scan_sound, take_sound)

-- What is owed, and what is spent, behind each step.
drawn_owed : (x : Assisting) (d : draw.Drawing) (out : Option ℕ) (drawn : ℕ) → words_given out ≡ drawn → (assist.after_draw x d out).owed ≡ x.owed - (drawn + 0)
drawn_owed x d out drawn e = grind arith

drawn_spent : (x : Assisting) (d : draw.Drawing) (out : Option ℕ) (drawn : ℕ) → words_given out ≡ drawn → x.spent + drawn < 2 ^ 64 → (assist.after_draw x d out).spent ≡ x.spent + drawn
drawn_spent x d out drawn e lt = grind arith

taken_owed : (x : Assisting) (t : take.EntryTaking) (out : Option (Option ℕ)) (drawn : ℕ) → drawn ≡ 0 → (assist.after_take x t out).owed ≡ x.owed - (drawn + 0)
taken_owed x t out drawn e = grind arith

taken_spent : (x : Assisting) (t : take.EntryTaking) (out : Option (Option ℕ)) (drawn : ℕ) → drawn ≡ 0 → (assist.after_take x t out).spent ≡ x.spent + drawn
taken_spent x t out drawn e = grind arith

scanned_owed : (x : Assisting) (m : scan.Scanning) (out : Option ℕ) (drawn : ℕ) → drawn ≡ 0 → (assist.after_scan x m out).owed ≡ x.owed - (drawn + words_given out)
scanned_owed x m out drawn e = grind arith

scanned_spent : (x : Assisting) (m : scan.Scanning) (out : Option ℕ) (drawn : ℕ) → drawn ≡ 0 → (assist.after_scan x m out).spent ≡ x.spent + drawn
scanned_spent x m out drawn e = grind arith

module _ (l : Layout) where
  ends_at : (x : Assisting) (p : AssistStage) (found : ℕ) → assist.is_busy p ≡ true → assist.is_busy (assist.goes_at l x p found).stage ≡ false → ((assist.goes_at l x p found).owed ≡ 0) ⊎ FindsNoGreyObject l p found
  ends_at x p found b e = grind arith

  loads : (x : Assisting) → LoadsDebt l x
  loads x = record {
    loads_work = λ found e. (ap (assist.asks_at l) e, ap (λ (p : AssistStage). (assist.goes_at l x p found).stage) e, ap (λ (p : AssistStage). (assist.goes_at l x p found).owed) e);
    loads_slack = λ work found e. (ap (assist.asks_at l) e, ap (λ (p : AssistStage). (assist.goes_at l x p found).owed) e);
  }

module _ (k : DrawsCredit) where
  pays_at : (l : Layout) (x : Assisting) (p : AssistStage) (found : ℕ) → SoundParts x.owed p → (AddsDebt p → ⊥) → (assist.goes_at l x p found).owed ≡ x.owed - (drawn_by (assist.asks_at l p) found + scanned_by l p found)
  pays_at l x p found s other = grind (arith, drawn_owed, scanned_owed, taken_owed)

  spends_at : (l : Layout) (x : Assisting) (p : AssistStage) (found : ℕ) → SoundParts x.owed p → x.spent + drawn_by (assist.asks_at l p) found < 2 ^ 64 → (assist.goes_at l x p found).spent ≡ x.spent + drawn_by (assist.asks_at l p) found
  spends_at l x p found s lt = grind (arith, drawn_spent, scanned_spent, taken_spent)

  draws_at : (l : Layout) (p : AssistStage) → LeavesOrDraws (assist.asks_at l p)
  draws_at l p = grind arith

  pub assists_pay : AssistsPay
  assists_pay = grind (arith, draws_at, ends_at, loads, pays_at, sound_at, spends_at)
