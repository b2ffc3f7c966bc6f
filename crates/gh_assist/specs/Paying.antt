-- How an assist pays what is owed, whatever it is told: each word that it draws out of the bank and each that it scans pays one, once.
use Rattle.std.specs.Prelude.{◌≡◌, ◌⊎◌, ℕ, ◌+◌, ◌-◌, ◌%◌, ◌^◌, ◌<◌, false, true, Option, Some, None}
use Rattle.gh_assist.specs.Vocabulary.{AssistStage, Cell, debt, Held, Layout, Load, LoadSlack, LoadWork, Scanning, Taking}
use Rattle.gh_assist.specs.Listing.{asks, Assisting, goes, is_busy, opening, slack_in, work_in}
use Rattle.gh_assist.specs.Sound.{IsSound}
use Rattle.gh_credit.specs.Drawing.{drawn_by, LeavesOrDraws, words_given}
use Rattle.gh_scan.specs.Listing as scan
use Rattle.gh_wbuf.specs.EntryTaking as take

module _ (l : Layout) where
  -- the words of the object whose scan ends with the step
  abbrev pub scanned_by : AssistStage → (found : ℕ) → ℕ
  scanned_by (Scanning s) found = words_given (scan.gives l s found)
  scanned_by _ found = 0

  -- no buffer has a grey object
  abbrev pub FindsNoGreyObject : AssistStage → (found : ℕ) → Type 0
  FindsNoGreyObject (Taking t) found = take.gives l t found ≡ Some None
  FindsNoGreyObject _ found = ⊥

  -- the debt of an object is that of its bytes, by the work and the slack as it has loaded them
  pub record LoadsDebt (x : Assisting) : Type 0 where
    pub loads_work : (found : ℕ) → x.stage ≡ LoadWork → (asks l x ≡ Load Cell.Work) × ((goes l x found).stage ≡ LoadSlack (work_in found)) × ((goes l x found).owed ≡ x.owed)
    pub loads_slack : (work found : ℕ) → x.stage ≡ LoadSlack work → (asks l x ≡ Load Cell.Slack) × ((goes l x found).owed ≡ (x.owed + debt x.bytes work (slack_in found)) % 2 ^ 64)

-- the step loads the slack
abbrev pub AddsDebt : AssistStage → Type 0
AddsDebt (LoadSlack work) = Unit {0}
AddsDebt _ = ⊥

pub record AssistsPay : Type 0 where
  pub sound_first : (seat : ℕ) (held : Option Held) (bytes owed spent : ℕ) → IsSound (opening seat held bytes owed spent)
  pub sound_goes : (l : Layout) (x : Assisting) (found : ℕ) → IsSound x → IsSound (goes l x found)
  pub debt_is : (l : Layout) (x : Assisting) → LoadsDebt l x
  -- by each other step what is owed falls by what the step pays, not below 0
  pub pays : (l : Layout) (x : Assisting) (found : ℕ) → IsSound x → (AddsDebt x.stage → ⊥) → (goes l x found).owed ≡ x.owed - (drawn_by (asks l x) found + scanned_by l x.stage found)
  -- it counts as spent what it draws, as long as the count is within its type
  pub spends : (l : Layout) (x : Assisting) (found : ℕ) → IsSound x → x.spent + drawn_by (asks l x) found < 2 ^ 64 → (goes l x found).spent ≡ x.spent + drawn_by (asks l x) found
  -- and it writes the bank by draws alone
  pub draws : (l : Layout) (x : Assisting) → LeavesOrDraws (asks l x)
  -- it ends only where nothing is owed, or no buffer has a grey object
  pub ends : (l : Layout) (x : Assisting) (found : ℕ) → IsSound x → is_busy x.stage ≡ true → is_busy (goes l x found).stage ≡ false → ((goes l x found).owed ≡ 0) ⊎ FindsNoGreyObject l x.stage found
