use Rattle.gh_barrier.proofs.Ending.{writing-ends}
use Rattle.gh_barrier.proofs.laws.writing_ends.Goals as goal

pub returns : goal.returns
returns c = writing-ends
