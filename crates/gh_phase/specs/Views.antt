-- What an actor knows of the phase between two stops.
use Rattle.std.specs.Prelude.{ℕ, ◌%◌, ◌^◌, ◌<◌, Option, Some, None}
use Rattle.gh_phase.specs.Vocabulary.{Finished, Mark, Off, RunPhase, View}
use Rattle.gh_base.specs.declared.pack.Phase.{Phase}

-- the phase of a world that runs; none where it is to stop
abbrev pub run_phase : Phase → Option RunPhase
run_phase Phase.Off = Some Off
run_phase Phase.Mark = Some Mark
run_phase Phase.Stop = None
run_phase Phase.Finished = Some Finished

-- the sweep generation is kept in a page word's bits
abbrev pub generation_found : (found : ℕ) → ℕ
generation_found found = found % 2 ^ 34

pub record FitsView (v : View) : Type 0 where
  pub generation : v.generation < 2 ^ 34
  pub begun : v.begun < 2 ^ 64

-- what is known when the heap opens
abbrev pub first_view : View
first_view = record { phase = Off; generation = 2; begun = 0 }
