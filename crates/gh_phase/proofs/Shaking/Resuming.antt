-- Going on after a stop makes the steps of the handshake.
use Rattle.std.proofs.Common.{arith}
use Rattle.gh_phase.specs.ResumePlaces.{ResumesInHandshake}

pub resumes_in_handshake : ResumesInHandshake
resumes_in_handshake = grind arith
