use Rattle.gh_worker.proofs.laws.a_worker_writes_its_own.Goals as goal
use Rattle.gh_worker.proofs.Writing.{writes_its_own}

pub returns : goal.returns
returns c = writes_its_own
