-- Marking is ended: what is asked for at each stage, where that leads, and what it gives.
use Rattle.std.specs.Prelude.{ℕ, ◌+◌, ◌%◌, ◌^◌, ◌<◌, Bool, true, false, Option, Some, None}
use Rattle.gh_coord.specs.Vocabulary.{Ask, Cell, CloseStage, Footprint, Layout, Listing, Load, Off, phase_word, PhaseWord, Store}
use Rattle.gh_base.specs.Footprints as row
use Rattle.gh_coord.specs.declared.close.Close.{Close}
use Rattle.gh_coord.specs.declared.close.CloseStage.TheVariants.{LoadBank, ClearBank, StoreGen, StorePhase, Ended}

-- the credit that has lapsed by now, the sweep generation that is to be stored, the number of stops, and the stage
abbrev pub Closing : Type 0
Closing = Close

abbrev pub opening : (lapsed generation stops : ℕ) → Closing
opening lapsed generation stops = record { lapsed = lapsed; generation = generation; stops = stops; stage = LoadBank }

abbrev pub at_stage : Closing → CloseStage → Closing
at_stage c stage = record c { stage = stage }

module _ (c : Closing) where
  -- no marking from now on
  abbrev pub phase_at : PhaseWord
  phase_at = record { stops = c.stops; phase = Off }

  abbrev pub asks_at : CloseStage → Ask
  asks_at LoadBank = Load Cell.Bank
  asks_at ClearBank = Store Cell.Bank 0
  asks_at StoreGen = Store Cell.Gen c.generation
  asks_at StorePhase = Store Cell.Phase (phase_word phase_at)
  asks_at Ended = Load Cell.Touch

  abbrev pub goes_at : CloseStage → ℕ → Closing
  goes_at LoadBank found = record c { lapsed = (c.lapsed + found) % 2 ^ 64; stage = ClearBank }
  goes_at ClearBank found = at_stage c StoreGen
  goes_at StoreGen found = at_stage c StorePhase
  goes_at StorePhase found = at_stage c Ended
  goes_at Ended found = at_stage c Ended

  abbrev pub given_at : CloseStage → Option ℕ
  given_at Ended = Some c.lapsed
  given_at _ = None

abbrev pub is_busy : CloseStage → Bool
is_busy Ended = false
is_busy _ = true

-- its next step stores the phase word
abbrev pub stores_phase : CloseStage → Bool
stores_phase StorePhase = true
stores_phase _ = false

-- marking has not ended: the next sweep generation is not stored
abbrev pub is_marking : CloseStage → Bool
is_marking StorePhase = false
is_marking Ended = false
is_marking _ = true

abbrev pub given : Closing → Option ℕ
given c = given_at c c.stage

abbrev pub asks : Closing → Ask
asks c = asks_at c c.stage

abbrev pub goes : Closing → ℕ → Closing
goes c found = goes_at c c.stage found

abbrev pub writes : Footprint
writes row.Bank = true
writes row.Gen = true
writes row.Phase = true
writes _ = false

-- its number of stops fits the phase word
abbrev pub listing : Layout → Listing Closing ℕ
listing l = record { asks = asks; goes = goes; given = given; sound = λ c. c.stops < 2 ^ 62; writes = writes }
