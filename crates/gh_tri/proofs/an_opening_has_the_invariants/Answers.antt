use Rattle.gh_tri.proofs.Keeping.{opening-holds}
use Rattle.gh_tri.proofs.an_opening_has_the_invariants.Goals as goal

pub returns : goal.returns
returns c = opening-holds
