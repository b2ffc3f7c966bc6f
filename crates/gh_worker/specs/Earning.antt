-- What a worker hands over to the bank of credit: each word that it has scanned, once.
use Rattle.std.specs.Prelude.{◌≡◌, ℕ, ◌+◌, ◌^◌, ◌<◌, true}
use Rattle.gh_worker.specs.Vocabulary.{Ask, Layout}
use Rattle.gh_credit.specs.Earning.{handed_by, LeavesOrAdds}
use Rattle.gh_worker.specs.Handshake.{Sound}
use Rattle.gh_worker.specs.Listing.{asks, goes, is_busy, opening, Working}
use Rattle.gh_worker.specs.Works.{words_done}

-- what a step does to the words that are handed over, and to those that are not yet, where so many are scanned with it
pub record EarnsInStep (ask : Ask) (words : ℕ) (w to : Working) : Type 0 where
  -- it counts as handed over what it adds to the bank
  pub counts : to.earned ≡ w.earned + handed_by ask
  -- and each word that it has scanned is handed over, or still to be
  pub keeps : to.earned + to.scan_work ≡ w.earned + w.scan_work + words

pub record WorkersEarn : Type 0 where
  -- before its first step it has scanned nothing
  pub at_first : (seat : ℕ) → ((opening seat).earned ≡ 0) × ((opening seat).scan_work ≡ 0)
  -- so it is with each step, as long as the counts are within their type
  pub earns : (l : Layout) (w : Working) (found : ℕ) → Sound w → is_busy w.stage ≡ true → w.earned + w.scan_work + words_done l w.stage found < 2 ^ 64 → EarnsInStep (asks l w) (words_done l w.stage found) w (goes l w found)
  -- and it writes the bank by such additions alone
  pub adds : (l : Layout) (w : Working) → Sound w → is_busy w.stage ≡ true → LeavesOrAdds (asks l w)
