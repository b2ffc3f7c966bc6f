use Rattle.gh_worker.proofs.Within.{stay_within}
use Rattle.gh_worker.proofs.laws.workers_stay_within.Goals as goal

pub returns : goal.returns
returns c = stay_within c.taking_and_scanning_are_within.ensures
