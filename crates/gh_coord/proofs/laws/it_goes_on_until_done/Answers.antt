use Rattle.gh_coord.proofs.GoingOn.{goes_on}
use Rattle.gh_coord.proofs.laws.it_goes_on_until_done.Goals as goal

pub returns : goal.returns
returns c = goes_on
