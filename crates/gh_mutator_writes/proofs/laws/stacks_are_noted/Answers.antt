use Rattle.gh_mutator_writes.proofs.Writing.Laws.{stacks_are_noted}
use Rattle.gh_mutator_writes.proofs.laws.stacks_are_noted.Goals as goal

pub returns : goal.returns
returns c = stacks_are_noted c.assists_are_quiet.ensures
