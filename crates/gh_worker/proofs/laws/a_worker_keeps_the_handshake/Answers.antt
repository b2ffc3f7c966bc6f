use Rattle.gh_worker.proofs.Shaking.{keeps_handshake}
use Rattle.gh_worker.proofs.laws.a_worker_keeps_the_handshake.Goals as goal

pub returns : goal.returns
returns c = keeps_handshake c.marking_is_quiet.ensures c.going_on_keeps_the_handshake.ensures
