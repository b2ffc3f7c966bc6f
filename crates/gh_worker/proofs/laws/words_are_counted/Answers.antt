use Rattle.gh_worker.proofs.Counting.{counts}
use Rattle.gh_worker.proofs.laws.words_are_counted.Goals as goal

pub returns : goal.returns
returns c = counts
