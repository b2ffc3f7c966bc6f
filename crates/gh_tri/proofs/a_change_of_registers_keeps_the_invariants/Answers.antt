use Rattle.gh_tri.proofs.Keeping.{keeps-changed}
use Rattle.gh_tri.proofs.a_change_of_registers_keeps_the_invariants.Goals as goal

pub returns : goal.returns
returns c = keeps-changed
