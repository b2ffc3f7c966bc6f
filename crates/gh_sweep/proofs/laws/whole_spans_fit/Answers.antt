use Rattle.gh_sweep.proofs.Sharing.Joined.{spans_fit}
use Rattle.gh_sweep.proofs.laws.whole_spans_fit.Goals as goal

pub returns : goal.returns
returns c = spans_fit
