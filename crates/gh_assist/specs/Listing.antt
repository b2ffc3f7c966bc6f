-- An assist: what is asked for at each stage, where that leads, and when it has ended.
use Rattle.std.specs.Prelude.{ℕ, ◌+◌, ◌-◌, ◌%◌, ◌^◌, ◌==◌, if◌then◌else◌, Bool, true, Option, Some, None, is_none, max, min}
use Rattle.gh_assist.specs.Vocabulary.{Ask, Assist, AssistStage, Cell, debt, Drawing, Ended, Held, Layout, Listing, Load, LoadSlack, LoadWork, Scanning, Taking}
use Rattle.gh_assist.specs.Sound.{SoundAssisting}
use Rattle.gh_base.specs.Footprints.{Footprint}
use Rattle.gh_base.specs.Footprints as row
use Rattle.gh_credit.specs.Drawing as draw
use Rattle.gh_scan.specs.Listing as scan
use Rattle.gh_wbuf.specs.EntryTaking as take

-- an assist behind the making of an object of so many bytes: the buffer that is held between its routines, the words that are owed, those that its seat has ever drawn, and its stage
abbrev pub Assisting : Type 0
Assisting = Assist

abbrev pub opening : (seat : ℕ) → Option Held → (bytes owed spent : ℕ) → Assisting
opening seat held bytes owed spent = record { seat = seat; held = held; bytes = bytes; owed = owed; spent = spent; stage = LoadWork }

abbrev pub at_stage : Assisting → AssistStage → Assisting
at_stage x stage = record x { stage = stage }

-- how found words are read: the work, and the slack, by which a debt can be divided
abbrev pub work_in : (found : ℕ) → ℕ
work_in found = found % 2 ^ 31

abbrev pub slack_in : (found : ℕ) → ℕ
slack_in found = max (found % 2 ^ 31) 1

-- what is held at each stage
abbrev pub held_at : Option Held → AssistStage → Option Held
held_at held (Taking t) = take.held_at t.stage
held_at held (Scanning s) = scan.held_at s.held s.stage
held_at held _ = held

-- where something is owed it draws on the bank
abbrev pub draws_if_owed : Assisting → Assisting
draws_if_owed x = at_stage x (if x.owed == 0 then Ended else Drawing (draw.opening x.owed))

-- while something is owed behind a payment it takes a grey object
abbrev pub pays : Assisting → Assisting
pays x = at_stage x (if x.owed == 0 then Ended else Taking (take.opening x.seat x.held))

-- what is owed grows by the debt of the object's bytes
abbrev pub owing : Assisting → (work found : ℕ) → Assisting
owing x work found = record x { owed = (x.owed + debt x.bytes work (slack_in found)) % 2 ^ 64 }

abbrev pub with_debt : Assisting → (work found : ℕ) → Assisting
with_debt x work found = draws_if_owed (owing x work found)

-- the number of the words that were drawn stands still at its type's end
abbrev pub counted : (spent drawn : ℕ) → ℕ
counted spent drawn = min (spent + drawn) (2 ^ 64 - 1)

-- the words that are drawn are paid and spent
abbrev pub drawn_for : Assisting → (drawn : ℕ) → Assisting
drawn_for x drawn = record x { owed = x.owed - drawn; spent = counted x.spent drawn }

abbrev pub after_draw : Assisting → draw.Drawing → Option ℕ → Assisting
after_draw x d None = at_stage x (Drawing d)
after_draw x d (Some drawn) = pays (drawn_for x drawn)

-- where no buffer has a grey object it ends
abbrev pub after_take : Assisting → take.EntryTaking → Option (Option ℕ) → Assisting
after_take x t None = at_stage x (Taking t)
after_take x t (Some None) = record x { held = take.held_at t.stage; stage = Ended }
after_take x t (Some (Some reference)) = record x { held = take.held_at t.stage; stage = Scanning (scan.opening x.seat reference (take.held_at t.stage)) }

-- the words of the object's slot are paid
abbrev pub scanned_for : Assisting → Option Held → (words : ℕ) → Assisting
scanned_for x held words = record x { held = held; owed = x.owed - words }

abbrev pub after_scan : Assisting → scan.Scanning → Option ℕ → Assisting
after_scan x s None = at_stage x (Scanning s)
after_scan x s (Some words) = pays (scanned_for x (scan.held_at s.held s.stage) words)

module _ (l : Layout) where
  abbrev pub asks_at : AssistStage → Ask
  asks_at LoadWork = Load Cell.Work
  asks_at (LoadSlack work) = Load Cell.Slack
  asks_at (Drawing d) = draw.asks d
  asks_at (Taking t) = take.asks t
  asks_at (Scanning s) = scan.asks l s
  asks_at Ended = Load Cell.Touch

  abbrev pub goes_at : Assisting → AssistStage → ℕ → Assisting
  goes_at x LoadWork found = at_stage x (LoadSlack (work_in found))
  goes_at x (LoadSlack work) found = with_debt x work found
  goes_at x (Drawing d) found = after_draw x (draw.goes d found) (draw.gives d found)
  goes_at x (Taking t) found = after_take x (take.goes l t found) (take.gives l t found)
  goes_at x (Scanning s) found = after_scan x (scan.goes l s found) (scan.gives l s found)
  goes_at x Ended found = at_stage x Ended

  abbrev pub asks : Assisting → Ask
  asks x = asks_at x.stage

  abbrev pub goes : Assisting → ℕ → Assisting
  goes x found = goes_at x x.stage found

abbrev pub given_at : AssistStage → Option (Unit {0})
given_at Ended = Some tt
given_at _ = None

abbrev pub is_busy : AssistStage → Bool
is_busy stage = is_none (given_at stage)

abbrev pub given : Assisting → Option (Unit {0})
given x = given_at x.stage

abbrev pub gives : Layout → Assisting → ℕ → Option (Unit {0})
gives l x found = given (goes l x found)

-- the bank, and what the scan of an object writes
abbrev pub writes : Footprint
writes row.Bank = true
writes r = scan.writes r

abbrev pub listing : Layout → Listing Assisting (Unit {0})
listing l = record { asks = asks l; goes = goes l; given = given; sound = SoundAssisting l; writes = writes }
