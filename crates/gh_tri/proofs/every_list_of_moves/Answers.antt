use Rattle.gh_tri.proofs.Keeping.{every-move, no-white}
use Rattle.gh_tri.proofs.every_list_of_moves.Goals as goal

pub returns-clause-invariants : goal.returns-clause-invariants
returns-clause-invariants c = every-move

pub returns-clause-white : goal.returns-clause-white
returns-clause-white c = no-white
