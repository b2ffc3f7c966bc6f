-- A stop, as the phase word says it.
use Rattle.std.specs.Prelude.{◌≡◌, ℕ, None}
use Rattle.gh_phase.specs.Vocabulary.{phase_of}
use Rattle.gh_phase.specs.Views.{run_phase}

-- the phase word says that the world is to stop, for the stop of this number
pub record IsStop (word number : ℕ) : Type 0 where
  pub stops : run_phase (phase_of word).phase ≡ None
  pub number_is : (phase_of word).stops ≡ number
