use Rattle.gh_worker.proofs.Sweeping.{runs_sweeps}
use Rattle.gh_worker.proofs.laws.workers_run_sweeps.Goals as goal

pub returns : goal.returns
returns c = runs_sweeps
