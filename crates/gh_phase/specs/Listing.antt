-- Going on after a stop: what is asked for at each stage, where that leads, and what it gives.
use Rattle.std.specs.Prelude.{ℕ, Bool, true, false, not, ◌==◌, if◌then◌else◌, Option, Some, None, is_none}
use Rattle.gh_phase.specs.Vocabulary.{Ack, Acknowledge, Ask, Begun, Ended, Gen, Layout, Load, LoadBegun, LoadGeneration, LoadPhase, Phase, phase_of, Resume, Resumed, ResumeStage, RunPhase, Store, Touch, View}
use Rattle.gh_base.specs.Footprints.{Footprint}
use Rattle.gh_base.specs.Footprints as row
use Rattle.gh_base.specs.Machines.{Listing, steps_of}
use Rattle.gh_base.specs.Routines as routine
use Rattle.gh_phase.specs.Sound.{SoundResuming}
use Rattle.gh_phase.specs.Views.{generation_found, run_phase}

-- an actor that goes on after a stop: the number of the stop, what it knows so far, and its stage
abbrev pub Resuming : Type 0
Resuming = Resume

abbrev pub opening : (seat stops : ℕ) → View → Resuming
opening seat stops view = record { seat = seat; stops = stops; view = view; stage = Acknowledge }

abbrev pub at_stage : Resuming → ResumeStage → Resuming
at_stage r stage = record r { stage = stage }

-- it ends with what it knows now, and whether another number of cycles has begun than it knew of
abbrev pub resumed_with : View → (begun : ℕ) → Resumed
resumed_with view begun = record { view = record view { begun = begun }; another_cycle = not (begun == view.begun) }

module _ (r : Resuming) where
  abbrev pub asks_at : ResumeStage → Ask
  asks_at Acknowledge = Store (Ack r.seat) r.stops
  asks_at LoadPhase = Load Phase
  asks_at LoadGeneration = Load Gen
  asks_at LoadBegun = Load Begun
  asks_at (Ended another_cycle) = Load Touch

  -- a stop with the same number is waited for; one with another is acknowledged
  abbrev pub stopped : (number : ℕ) → Resuming
  stopped number = if number == r.stops then at_stage r LoadPhase else record r { stops = number; stage = Acknowledge }

  -- by the phase of a world that runs, or else by the number of the stop
  abbrev pub after_phase : (number : ℕ) → Option RunPhase → Resuming
  after_phase number None = stopped number
  after_phase number (Some phase) = record r { view = record (r.view) { phase = phase }; stage = LoadGeneration }

  abbrev pub goes_at : ResumeStage → ℕ → Resuming
  goes_at Acknowledge found = at_stage r LoadPhase
  goes_at LoadPhase found = after_phase (phase_of found).stops (run_phase (phase_of found).phase)
  goes_at LoadGeneration found = record r { view = record (r.view) { generation = generation_found found }; stage = LoadBegun }
  goes_at LoadBegun found = record r { view = record (r.view) { begun = found }; stage = Ended (resumed_with r.view found).another_cycle }
  goes_at (Ended another_cycle) found = at_stage r (Ended another_cycle)

-- what it has given: what it knows then
abbrev pub given_at : View → ResumeStage → Option Resumed
given_at view (Ended another_cycle) = Some (record { view = view; another_cycle = another_cycle })
given_at view _ = None

abbrev pub given : Resuming → Option Resumed
given r = given_at r.view r.stage

abbrev pub is_busy : Resuming → Bool
is_busy r = is_none (given r)

-- the step that it asks for, what it is after the step found this, and what it ends with if that step is its last
abbrev pub asks : Resuming → Ask
asks r = asks_at r r.stage

abbrev pub goes : Resuming → ℕ → Resuming
goes r found = goes_at r r.stage found

abbrev pub gives : Resuming → ℕ → Option Resumed
gives r found = given (goes r found)

-- it writes what its seat acknowledges
abbrev pub writes : Footprint
writes row.Ack = true
writes _ = false

abbrev pub listing : Layout → Listing Resuming Resumed
listing l = record { asks = asks; goes = goes; given = given; sound = SoundResuming l; writes = writes }

abbrev pub transitions : Layout → routine.Listing Resuming Resumed
transitions l = steps_of l (listing l)
