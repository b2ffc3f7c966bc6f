use Rattle.gh_barrier.proofs.Within.{is-within}
use Rattle.gh_barrier.proofs.laws.writing_is_within.Goals as goal

pub returns : goal.returns
returns c = is-within
