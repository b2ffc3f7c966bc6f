use Rattle.gh_phase.proofs.Shaking.Resuming.{resumes_in_handshake}
use Rattle.gh_phase.proofs.laws.going_on_keeps_the_handshake.Goals as goal

pub returns : goal.returns
returns c = resumes_in_handshake
