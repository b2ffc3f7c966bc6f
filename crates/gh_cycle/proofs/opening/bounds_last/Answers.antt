use Rattle.gh_cycle.proofs.Bounding.{bounds-last}
use Rattle.gh_cycle.proofs.opening.bounds_last.Goals as goal

pub returns : goal.returns
returns c = bounds-last
