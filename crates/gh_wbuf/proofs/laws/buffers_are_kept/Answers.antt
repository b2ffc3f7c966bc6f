use Rattle.gh_wbuf.proofs.Knowing.{kept}
use Rattle.gh_wbuf.proofs.laws.buffers_are_kept.Goals as goal

pub returns : goal.returns
returns c = kept c.buffers_are_held.ensures
