use Rattle.gh_mutator.proofs.Shaking.Quiet.{is_quiet}
use Rattle.gh_mutator.proofs.laws.the_processor_is_quiet.Goals as goal

pub returns : goal.returns
returns c = is_quiet c.what_polls_run_is_quiet.ensures c.marking_is_quiet.ensures c.allocation_is_quiet.ensures c.assists_are_quiet.ensures
