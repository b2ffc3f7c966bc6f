-- Drawing on the bank: what is asked for at each stage, where that leads, and how many words are taken.
use Rattle.std.specs.Prelude.{◌≡◌, ◌≢◌, ◌↔◌, ℕ, ◌-◌, ◌≤◌, ◌==◌, if◌then◌else◌, Bool, true, false, Option, Some, None, is_none, min}
use Rattle.gh_credit.specs.Vocabulary.{Ask, Bank, Footprint, Layout, Listing, Touch}
use Rattle.gh_base.specs.Footprints as row
use Rattle.gh_credit.specs.declared.draw.Draw.{Draw}
use Rattle.gh_credit.specs.declared.draw.DrawStage.{DrawStage}
use Rattle.gh_credit.specs.declared.draw.DrawStage.TheVariants.{LoadBank, Swap, Ended}

-- so many words are owed
abbrev pub Drawing : Type 0
Drawing = Draw

abbrev pub opening : (owed : ℕ) → Drawing
opening owed = record { owed = owed; stage = LoadBank }

-- the most that is taken of a bank that holds so many words
abbrev pub most_drawn : Drawing → (bank : ℕ) → ℕ
most_drawn d bank = min bank d.owed

abbrev pub asks_at : Drawing → DrawStage → Ask
asks_at d LoadBank = Ask.Load Bank
asks_at d (Swap bank) = Ask.Swap Bank bank (bank - most_drawn d bank)
asks_at d (Ended drawn) = Ask.Load Touch

-- where none is to be taken it ends
abbrev pub after_load : Drawing → (bank : ℕ) → DrawStage
after_load d bank = if most_drawn d bank == 0 then Ended 0 else Swap bank

-- where the swap found another word it has taken none
abbrev pub after_swap : Drawing → (bank found : ℕ) → DrawStage
after_swap d bank found = if found == bank then Ended (most_drawn d bank) else Ended 0

abbrev pub goes_at : Drawing → DrawStage → ℕ → DrawStage
goes_at d LoadBank found = after_load d found
goes_at d (Swap bank) found = after_swap d bank found
goes_at d (Ended drawn) found = Ended drawn

abbrev pub given_at : DrawStage → Option ℕ
given_at (Ended drawn) = Some drawn
given_at _ = None

abbrev pub is_busy : DrawStage → Bool
is_busy stage = is_none (given_at stage)

abbrev pub asks : Drawing → Ask
asks d = asks_at d d.stage

abbrev pub goes : Drawing → ℕ → Drawing
goes d found = record d { stage = goes_at d d.stage found }

abbrev pub given : Drawing → Option ℕ
given d = given_at d.stage

abbrev pub gives : Drawing → ℕ → Option ℕ
gives d found = given (goes d found)

abbrev pub writes : Footprint
writes row.Bank = true
writes _ = false

abbrev pub listing : Layout → Listing Drawing ℕ
listing l = record { asks = asks; goes = goes; given = given; sound = λ d. Unit {0}; writes = writes }

-- the words that a step takes out of the bank: by a swap that wrote, those that the word is less by then
abbrev pub drawn_by : Ask → (found : ℕ) → ℕ
drawn_by (Ask.Swap Bank old new) found = if found == old then old - new else 0
drawn_by _ found = 0

-- a step that writes no bank, or takes words out of it by a swap
abbrev pub LeavesOrDraws : Ask → Type 0
LeavesOrDraws (Ask.Load c) = Unit {0}
LeavesOrDraws (Ask.Swap Bank old new) = new ≤ old
LeavesOrDraws (Ask.Swap c old new) = Unit {0}
LeavesOrDraws (Ask.Store c value) = c ≢ Bank
LeavesOrDraws (Ask.Or c bits) = c ≢ Bank
LeavesOrDraws (Ask.And c bits) = c ≢ Bank
LeavesOrDraws (Ask.Add c more) = c ≢ Bank

-- the words of what is given, if anything is
abbrev pub words_given : Option ℕ → ℕ
words_given None = 0
words_given (Some words) = words

-- What a draw takes, whatever it is told.
pub record DrawsCredit : Type 0 where
  -- what it gives with a step is what the step takes out of the bank
  pub counts : (d : Drawing) (found : ℕ) → is_busy d.stage ≡ true → words_given (gives d found) ≡ drawn_by (asks d) found
  -- From its begin: where words are owed, and the bank held some when it looked, its second step is its last. It takes the lesser of what the bank held then and what is owed, if the bank holds that still, and else none.
  pub takes_lesser : (owed bank found : ℕ) → owed ≢ 0 → bank ≢ 0 → gives (goes (opening owed) bank) found ≡ Some (if found == bank then min bank owed else 0)
  -- no more than is owed
  pub at_most : (d : Drawing) (found words : ℕ) → is_busy d.stage ≡ true → gives d found ≡ Some words → words ≤ d.owed
  -- it takes none by its load exactly where the bank is empty, and by its swap exactly where another changed the bank in between
  pub none_there : (owed found : ℕ) → owed ≢ 0 → (gives (opening owed) found ≡ Some 0) ↔ (found ≡ 0)
  pub none_taken : (owed bank found : ℕ) → owed ≢ 0 → bank ≢ 0 → (gives (record { owed = owed; stage = Swap bank }) found ≡ Some 0) ↔ (found ≢ bank)
  -- and it writes the bank by such swaps alone
  pub draws : (d : Drawing) → LeavesOrDraws (asks d)
