use Rattle.gh_coord.proofs.Sweeping.{runs_sweeps}
use Rattle.gh_coord.proofs.laws.the_coordinator_runs_sweeps.Goals as goal

pub returns : goal.returns
returns c = runs_sweeps c.the_parts_are_routines.ensures
