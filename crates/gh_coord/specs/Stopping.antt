-- A stop of the world: what is asked for at each stage, where that leads, and what it gives.
use Rattle.std.specs.Prelude.{ℕ, ◌+◌, ◌^◌, ◌<◌, Bool, true, false, nat_lt, ◌==◌, ◌||◌, if◌then◌else◌, Option, Some, None, is_none}
use Rattle.gh_coord.specs.Vocabulary.{Ask, Cell, Footprint, GONE, Layout, Listing, Load, Phase, phase_word, StopStage, Store}
use Rattle.gh_base.specs.Footprints as row
use Rattle.gh_coord.specs.declared.stop.Stop.{Stop}
use Rattle.gh_coord.specs.declared.stop.StopStage.TheVariants.{StorePhase, Await, Ended}

-- the number of the stop, and its stage
abbrev pub Stopping : Type 0
Stopping = Stop

abbrev pub opening : (stops : ℕ) → Stopping
opening stops = record { stops = stops; stage = StorePhase }

abbrev pub at_stage : Stopping → StopStage → Stopping
at_stage s stage = record s { stage = stage }

-- the acknowledgements: of the processors, and then of the workers
abbrev pub acks_of : Layout → ℕ
acks_of l = l.procs + l.workers

-- this word acknowledges the stop, or is that of an actor that is done
abbrev pub is_acknowledged : (stops found : ℕ) → Bool
is_acknowledged stops found = (found == stops) || (found == GONE)

abbrev pub asks_at : Stopping → StopStage → Ask
asks_at s StorePhase = Store Cell.Phase (phase_word (record { stops = s.stops; phase = Phase.Stop }))
asks_at s (Await ack) = Load (Cell.Ack ack)
asks_at s Ended = Load Cell.Touch

module _ (l : Layout) where
  -- the next acknowledgement, if there is one
  abbrev pub behind : ℕ → StopStage
  behind ack = if nat_lt (ack + 1) (acks_of l) then Await (ack + 1) else Ended

  abbrev pub goes_at : Stopping → StopStage → ℕ → Stopping
  goes_at s StorePhase found = at_stage s (Await 0)
  goes_at s (Await ack) found = at_stage s (if is_acknowledged s.stops found then behind ack else Await ack)
  goes_at s Ended found = at_stage s Ended

-- what it has given, and whether it is busy
abbrev pub given_at : StopStage → Option (Unit {0})
given_at Ended = Some tt
given_at _ = None

abbrev pub is_busy : StopStage → Bool
is_busy stage = is_none (given_at stage)

-- its next step stores the phase word
abbrev pub stores_phase : StopStage → Bool
stores_phase StorePhase = true
stores_phase _ = false

abbrev pub given : Stopping → Option (Unit {0})
given s = given_at s.stage

abbrev pub asks : Stopping → Ask
asks s = asks_at s s.stage

abbrev pub goes : Layout → Stopping → ℕ → Stopping
goes l s found = goes_at l s s.stage found

-- its number fits the phase word, and the acknowledgement that is next is one that there is
abbrev pub SoundAt : Layout → StopStage → Type 0
SoundAt l StorePhase = 0 < acks_of l
SoundAt l (Await ack) = ack < acks_of l
SoundAt l Ended = Unit {0}

pub record Sound (l : Layout) (s : Stopping) : Type 0 where
  pub stops : s.stops < 2 ^ 62
  pub stage : SoundAt l s.stage

abbrev pub writes : Footprint
writes row.Phase = true
writes _ = false

abbrev pub listing : Layout → Listing Stopping (Unit {0})
listing l = record { asks = asks; goes = goes l; given = given; sound = Sound l; writes = writes }
