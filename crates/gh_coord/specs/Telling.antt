-- It is told that a cycle is swept: what is asked for at each stage, where that leads, and what it gives.
use Rattle.std.specs.Prelude.{ℕ, ◌^◌, ◌<◌, Bool, true, false, if◌then◌else◌, Option, Some, None, is_none}
use Rattle.gh_coord.specs.Vocabulary.{Ask, Cell, Finished, Footprint, Layout, Listing, Load, phase_word, PhaseWord, Store, TellStage}
use Rattle.gh_base.specs.Footprints as row
use Rattle.gh_coord.specs.declared.tell.Tell.{Tell}
use Rattle.gh_coord.specs.declared.tell.TellStage.TheVariants.{StoreTrigger, StoreSwept, StorePhase, Ended}

-- the trigger of the next cycle, the number of this one, that of the stops, that it was the last cycle, and the stage
abbrev pub Telling : Type 0
Telling = Tell

abbrev pub opening : (trigger cycle stops : ℕ) → (is_last : Bool) → Telling
opening trigger cycle stops is_last = record { trigger = trigger; cycle = cycle; stops = stops; is_last = is_last; stage = StoreTrigger }

module _ (t : Telling) where
  -- the world is done
  abbrev pub phase_at : PhaseWord
  phase_at = record { stops = t.stops; phase = Finished }

  abbrev pub asks_at : TellStage → Ask
  asks_at StoreTrigger = Store Cell.Trigger t.trigger
  asks_at StoreSwept = Store Cell.Swept t.cycle
  asks_at StorePhase = Store Cell.Phase (phase_word phase_at)
  asks_at Ended = Load Cell.Touch

-- the phase word is stored behind the last cycle alone
abbrev pub behind : (is_last : Bool) → TellStage → TellStage
behind is_last StoreTrigger = StoreSwept
behind is_last StoreSwept = if is_last then StorePhase else Ended
behind is_last StorePhase = Ended
behind is_last Ended = Ended

-- what it has given, and whether it is busy
abbrev pub given_at : TellStage → Option (Unit {0})
given_at Ended = Some tt
given_at _ = None

abbrev pub is_busy : TellStage → Bool
is_busy stage = is_none (given_at stage)

-- its next step stores the phase word
abbrev pub stores_phase : TellStage → Bool
stores_phase StorePhase = true
stores_phase _ = false

-- its next step tells that the cycle is swept
abbrev pub stores_swept : TellStage → Bool
stores_swept StoreSwept = true
stores_swept _ = false

abbrev pub given : Telling → Option (Unit {0})
given t = given_at t.stage

abbrev pub asks : Telling → Ask
asks t = asks_at t t.stage

abbrev pub goes : Telling → ℕ → Telling
goes t found = record t { stage = behind t.is_last t.stage }

abbrev pub writes : Footprint
writes row.Trigger = true
writes row.Swept = true
writes row.Phase = true
writes _ = false

-- its number of stops fits the phase word
abbrev pub listing : Layout → Listing Telling (Unit {0})
listing l = record { asks = asks; goes = goes; given = given; sound = λ t. t.stops < 2 ^ 62; writes = writes }
