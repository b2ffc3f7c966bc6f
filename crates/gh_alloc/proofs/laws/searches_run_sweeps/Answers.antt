use Rattle.gh_alloc.proofs.Seeking.Sweeping.{runs_sweeps}
use Rattle.gh_alloc.proofs.laws.searches_run_sweeps.Goals as goal

pub returns : goal.returns
returns c l = runs_sweeps l (c.passes_run_sweeps.ensures.passes l) (c.passes_run_sweeps.ensures.reclaims l)
