use Rattle.gh_explained.proofs.Stores.{every_load}
use Rattle.gh_explained.proofs.laws.loads_see_stores.Goals as goal

pub returns : goal.returns
returns c = every_load
