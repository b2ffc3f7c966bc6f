use Rattle.gh_tri.proofs.Keeping.{none-white}
use Rattle.gh_tri.proofs.what_is_reached_is_marked.Goals as goal

pub returns : goal.returns
returns c = none-white
