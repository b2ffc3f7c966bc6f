-- A cycle is opened: what is asked for at each stage, where that leads, and what it gives.
use Rattle.std.specs.Prelude.{ℕ, ◌^◌, ◌<◌, Bool, true, false, Option, Some, None, is_none}
use Rattle.gh_coord.specs.Vocabulary.{Ask, Cell, Footprint, Layout, Listing, Load, NEVER, OpenStage, Phase, phase_word, slack, Store}
use Rattle.gh_base.specs.Footprints as row
use Rattle.gh_coord.specs.declared.open.Open.{Open}
use Rattle.gh_coord.specs.declared.open.OpenStage.TheVariants.{ClearWant, ClearGcur, ClearTally, ClearLive, StoreTrigger, LoadHeap, StoreWork, StoreSlack, StoreBegun, StorePhase, Ended}
use Rattle.gh_coord.specs.Pacing.{taken_bytes}

-- the number of stops, that of the cycle, the words that are to be scanned, the goal, the heap's bytes once they are found, and the stage
abbrev pub CycleOpening : Type 0
CycleOpening = Open

abbrev pub opening : (stops cycle work : ℕ) → (goal : Option ℕ) → CycleOpening
opening stops cycle work goal = record { stops = stops; cycle = cycle; work = work; goal = goal; heap = 0; stage = ClearWant }

abbrev pub behind : OpenStage → OpenStage
behind ClearWant = ClearGcur
behind ClearGcur = ClearTally
behind ClearTally = ClearLive
behind ClearLive = StoreTrigger
behind StoreTrigger = LoadHeap
behind LoadHeap = StoreWork
behind StoreWork = StoreSlack
behind StoreSlack = StoreBegun
behind StoreBegun = StorePhase
behind StorePhase = Ended
behind Ended = Ended

module _ (o : CycleOpening) where
  abbrev pub asks_at : OpenStage → Ask
  asks_at ClearWant = Store Cell.Want 0
  asks_at ClearGcur = Store Cell.Gcur 0
  asks_at ClearTally = Store Cell.Tally 0
  asks_at ClearLive = Store Cell.Live 0
  asks_at StoreTrigger = Store Cell.Trigger NEVER
  asks_at LoadHeap = Load Cell.Heap
  asks_at StoreWork = Store Cell.Work o.work
  asks_at StoreSlack = Store Cell.Slack (slack o.heap o.goal)
  asks_at StoreBegun = Store Cell.Begun o.cycle
  asks_at StorePhase = Store Cell.Phase (phase_word (record { stops = o.stops; phase = Phase.Mark }))
  asks_at Ended = Load Cell.Touch

  -- the heap's bytes that it has found by then
  abbrev pub found_at : OpenStage → ℕ → ℕ
  found_at LoadHeap found = taken_bytes found
  found_at _ found = o.heap

  abbrev pub goes_at : OpenStage → ℕ → CycleOpening
  goes_at stage found = record o { heap = found_at stage found; stage = behind stage }

-- what it has given, and whether it is busy
abbrev pub given_at : OpenStage → Option (Unit {0})
given_at Ended = Some tt
given_at _ = None

abbrev pub is_busy : OpenStage → Bool
is_busy stage = is_none (given_at stage)

-- its next step stores the phase word
abbrev pub stores_phase : OpenStage → Bool
stores_phase StorePhase = true
stores_phase _ = false

abbrev pub given : CycleOpening → Option (Unit {0})
given o = given_at o.stage

abbrev pub asks : CycleOpening → Ask
asks o = asks_at o o.stage

abbrev pub goes : CycleOpening → ℕ → CycleOpening
goes o found = goes_at o o.stage found

abbrev pub writes : Footprint
writes row.Want = true
writes row.Gcur = true
writes row.Tally = true
writes row.Live = true
writes row.Trigger = true
writes row.Work = true
writes row.Slack = true
writes row.Begun = true
writes row.Phase = true
writes _ = false

-- its number of stops fits the phase word
abbrev pub listing : Layout → Listing CycleOpening (Unit {0})
listing l = record { asks = asks; goes = goes; given = given; sound = λ o. o.stops < 2 ^ 62; writes = writes }
