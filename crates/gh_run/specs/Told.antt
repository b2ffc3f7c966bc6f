-- What the run of a script by threads has told.
use Rattle.std.specs.Prelude.{◌≡◌, ℕ, List, map}
use Rattle.gh_base.specs.declared.layout.Layout.{Layout}
use Rattle.gh_base.specs.declared.machine.Entry.{Entry}
use Rattle.gh_base.specs.declared.operation.Op.{Op}
use Rattle.gh_lines.specs.Text.{answers_by, Outcome}
use Rattle.gh_run.specs.declared.running.ThreadRun.{ThreadRun}
use Rattle.gh_script.specs.Program.{Program}
use Rattle.gh_world.specs.Runs.{IsExplained, swept_cycle}
use Rattle.gh_world.specs.World.{LaysOut}

-- what the run came to
abbrev pub outcome_of : ThreadRun → Outcome
outcome_of r = record { answers = r.answers.items; cycles = map swept_cycle r.cycles.items; earned = r.earned; spent = r.spent; lapsed = r.lapsed; objects = r.objects; bytes = r.live }

-- There is one whole run of the script, a legal list of its actors' steps, by which this is explained: each goroutine's answers, the cycles, the credit and what is live are those that it comes to.
pub record IsRunByThreads (p : Program) (told : Outcome) : Type 0 where
  pub layout : Layout
  pub lays_out : LaysOut p layout
  pub steps : List (Entry Op)
  pub outcome : Outcome
  pub explained : IsExplained p layout steps outcome
  pub answers : (g : ℕ) → answers_by g told.answers ≡ answers_by g outcome.answers
  pub cycles : told.cycles ≡ outcome.cycles
  pub credit : (told.earned ≡ outcome.earned) × (told.spent ≡ outcome.spent) × (told.lapsed ≡ outcome.lapsed)
  pub live : (told.objects ≡ outcome.objects) × (told.bytes ≡ outcome.bytes)
