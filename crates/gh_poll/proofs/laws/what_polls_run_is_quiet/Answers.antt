use Rattle.gh_poll.proofs.Shaking.Quiet.{is_quiet}
use Rattle.gh_poll.proofs.laws.what_polls_run_is_quiet.Goals as goal

pub returns : goal.returns
returns c = is_quiet c.marking_is_quiet.ensures
