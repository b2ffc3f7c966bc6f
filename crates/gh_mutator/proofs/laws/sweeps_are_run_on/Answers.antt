use Rattle.gh_mutator.proofs.Sweeping.{sweeps_run_on}
use Rattle.gh_mutator.proofs.laws.sweeps_are_run_on.Goals as goal

pub returns : goal.returns
returns c = sweeps_run_on c.searches_run_sweeps.ensures
