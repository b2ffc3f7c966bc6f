use Rattle.gh_central.proofs.Sweeping.Running.{pass_runs_sweeps, reclaim_runs_sweeps}
use Rattle.gh_central.proofs.laws.passes_run_sweeps.Goals as goal

pub returns-clause-reclaims : goal.returns-clause-reclaims
returns-clause-reclaims c = reclaim_runs_sweeps

pub returns-clause-passes : goal.returns-clause-passes
returns-clause-passes c = pass_runs_sweeps
