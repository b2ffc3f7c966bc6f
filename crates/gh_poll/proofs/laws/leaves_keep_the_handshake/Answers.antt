use Rattle.gh_poll.proofs.Shaking.Waits.{leaves_in_handshake}
use Rattle.gh_poll.proofs.laws.leaves_keep_the_handshake.Goals as goal

pub returns : goal.returns
returns c = leaves_in_handshake c.what_polls_run_is_quiet.ensures
