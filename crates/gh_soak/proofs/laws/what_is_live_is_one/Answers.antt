use Rattle.gh_soak.proofs.Counts.{one_count}
use Rattle.gh_soak.proofs.laws.what_is_live_is_one.Goals as goal

pub returns : goal.returns
returns c = λ shapes e objects bytes more other a b. one_count shapes e objects bytes more other a b
