use Rattle.gh_tri.proofs.Going.{keeps-steps}
use Rattle.gh_tri.proofs.each_step_keeps_the_invariants.Goals as goal

pub returns : goal.returns
returns c = keeps-steps c.a_move_keeps_the_invariants.ensures c.a_change_of_registers_keeps_the_invariants.ensures
