use Rattle.gh_worker.proofs.Places.{keep_places}
use Rattle.gh_worker.proofs.laws.workers_keep_places.Goals as goal

pub returns : goal.returns
returns c = keep_places
