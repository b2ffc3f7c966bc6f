use Rattle.gh_coord.proofs.Triggering.{the_trigger_is_by_what_is_live}
use Rattle.gh_coord.proofs.laws.the_trigger_is_by_what_is_live.Goals as goal

pub returns : goal.returns
returns c = the_trigger_is_by_what_is_live
