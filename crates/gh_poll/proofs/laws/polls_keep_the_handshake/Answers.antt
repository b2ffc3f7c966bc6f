use Rattle.gh_poll.proofs.Shaking.Polls.{polls_in_handshake}
use Rattle.gh_poll.proofs.laws.polls_keep_the_handshake.Goals as goal

pub returns : goal.returns
returns c = polls_in_handshake c.what_polls_run_is_quiet.ensures c.marking_is_quiet.ensures c.going_on_keeps_the_handshake.ensures
