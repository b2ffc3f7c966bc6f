-- Handing scanned words over to the bank: what is asked for at each stage, where that leads, and when it has ended.
use Rattle.std.specs.Prelude.{◌≢◌, ℕ, Bool, true, false, Option, Some, None, is_none}
use Rattle.gh_credit.specs.Vocabulary.{Ask, Bank, Footprint, Layout, Listing, Touch}
use Rattle.gh_base.specs.Footprints as row
use Rattle.gh_base.specs.Steps.{cell_of}
use Rattle.gh_credit.specs.declared.earn.Earn.{Earn}
use Rattle.gh_credit.specs.declared.earn.EarnStage.{EarnStage}
use Rattle.gh_credit.specs.declared.earn.EarnStage.TheVariants.{Add, Ended}

abbrev pub Earning : Type 0
Earning = Earn

abbrev pub opening : (words : ℕ) → Earning
opening words = record { words = words; stage = Add }

abbrev pub asks_at : Earning → EarnStage → Ask
asks_at e Add = Ask.Add Bank e.words
asks_at e Ended = Ask.Load Touch

-- it has ended once the words are added
abbrev pub given_at : EarnStage → Option (Unit {0})
given_at Ended = Some tt
given_at _ = None

abbrev pub is_busy : EarnStage → Bool
is_busy stage = is_none (given_at stage)

abbrev pub asks : Earning → Ask
asks e = asks_at e e.stage

abbrev pub goes : Earning → ℕ → Earning
goes e found = record e { stage = Ended }

abbrev pub given : Earning → Option (Unit {0})
given e = given_at e.stage

abbrev pub gives : Earning → ℕ → Option (Unit {0})
gives e found = given (goes e found)

abbrev pub writes : Footprint
writes row.Bank = true
writes _ = false

abbrev pub listing : Layout → Listing Earning (Unit {0})
listing l = record { asks = asks; goes = goes; given = given; sound = λ e. Unit {0}; writes = writes }

-- the words that a step hands over
abbrev pub handed_by : Ask → ℕ
handed_by (Ask.Add Bank more) = more
handed_by _ = 0

-- a step that writes no bank, or writes it by adding to it
abbrev pub LeavesOrAdds : Ask → Type 0
LeavesOrAdds (Ask.Load c) = Unit {0}
LeavesOrAdds (Ask.Add c more) = Unit {0}
LeavesOrAdds step = cell_of step ≢ Bank
