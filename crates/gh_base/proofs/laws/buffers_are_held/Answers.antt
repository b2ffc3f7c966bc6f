use Rattle.gh_base.proofs.Holding.{held}
use Rattle.gh_base.proofs.laws.buffers_are_held.Goals as goal

pub returns : goal.returns
returns c = held
