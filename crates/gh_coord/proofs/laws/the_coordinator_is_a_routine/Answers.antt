use Rattle.gh_coord.proofs.PartsRoutines.{coordinator_is}
use Rattle.gh_coord.proofs.laws.the_coordinator_is_a_routine.Goals as goal

pub returns : goal.returns
returns c = coordinator_is c.the_parts_are_routines.ensures
