use Rattle.gh_coord.proofs.Within.{stays_within}
use Rattle.gh_coord.proofs.laws.the_coordinator_stays_within.Goals as goal

pub returns : goal.returns
returns c = stays_within
