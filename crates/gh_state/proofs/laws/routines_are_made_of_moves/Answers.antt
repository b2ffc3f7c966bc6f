use Rattle.gh_state.proofs.Routines.{sweeps}
use Rattle.gh_state.proofs.laws.routines_are_made_of_moves.Goals as goal

pub returns : goal.returns
returns c = sweeps c.sweeps_among_others.ensures c.sweeps_leave.ensures
