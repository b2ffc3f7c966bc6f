use Rattle.gh_wbuf.proofs.Tries.{tries}
use Rattle.gh_wbuf.proofs.laws.buffers_are_tried.Goals as goal

pub returns : goal.returns
returns c = tries
