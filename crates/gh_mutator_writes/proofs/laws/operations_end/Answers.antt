use Rattle.gh_mutator_writes.proofs.Ending.{operations_end}
use Rattle.gh_mutator_writes.proofs.laws.operations_end.Goals as goal

pub returns : goal.returns
returns c = operations_end c.writing_ends.ensures
