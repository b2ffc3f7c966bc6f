use Rattle.gh_mutator_writes.proofs.Full.{full_changes_little}
use Rattle.gh_mutator_writes.proofs.laws.full_changes_little.Goals as goal

pub returns : goal.returns
returns c = full_changes_little
