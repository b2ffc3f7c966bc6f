use Rattle.gh_poll.proofs.Shaking.Waits.{waits_in_handshake}
use Rattle.gh_poll.proofs.laws.waits_keep_the_handshake.Goals as goal

pub returns : goal.returns
returns c = waits_in_handshake c.polls_keep_the_handshake.ensures
