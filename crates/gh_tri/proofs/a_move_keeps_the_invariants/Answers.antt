use Rattle.gh_tri.proofs.Keeping.{keeps-moved}
use Rattle.gh_tri.proofs.a_move_keeps_the_invariants.Goals as goal

pub returns : goal.returns
returns c = keeps-moved
