-- What the sweep has counted is read: what is asked for at each stage, where that leads, and what it gives.
use Rattle.std.specs.Prelude.{ℕ, Bool, false, Option, Some, None, is_none}
use Rattle.gh_coord.specs.Vocabulary.{Ask, Cell, Counted, Footprint, Layout, Listing, Load, tally_of}
use Rattle.gh_coord.specs.declared.count.Count.{Count}
use Rattle.gh_coord.specs.declared.count.CountStage.{CountStage}
use Rattle.gh_coord.specs.declared.count.CountStage.TheVariants.{LoadTally, LoadLive, Ended}

abbrev pub Counting : Type 0
Counting = Count

abbrev pub opening : Counting
opening = record { stage = LoadTally }

abbrev pub at_stage : Counting → CountStage → Counting
at_stage c stage = record c { stage = stage }

abbrev pub asks_at : CountStage → Ask
asks_at LoadTally = Load Cell.Tally
asks_at (LoadLive tally) = Load Cell.Live
asks_at (Ended counted) = Load Cell.Touch

abbrev pub goes_at : Counting → CountStage → ℕ → Counting
goes_at c LoadTally found = at_stage c (LoadLive (tally_of found))
goes_at c (LoadLive tally) found = at_stage c (Ended (record { tally = tally; live = found }))
goes_at c (Ended counted) found = at_stage c (Ended counted)

-- what it has given, and whether it is busy
abbrev pub given_at : CountStage → Option Counted
given_at (Ended counted) = Some counted
given_at _ = None

abbrev pub is_busy : CountStage → Bool
is_busy stage = is_none (given_at stage)

abbrev pub given : Counting → Option Counted
given c = given_at c.stage

abbrev pub asks : Counting → Ask
asks c = asks_at c.stage

abbrev pub goes : Counting → ℕ → Counting
goes c found = goes_at c c.stage found

abbrev pub writes : Footprint
writes _ = false

abbrev pub listing : Layout → Listing Counting Counted
listing l = record { asks = asks; goes = goes; given = given; sound = λ c. Unit {0}; writes = writes }
