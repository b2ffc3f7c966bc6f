use Rattle.gh_alloc.proofs.Placing.Trigger.{asks_at_the_trigger}
use Rattle.gh_alloc.proofs.laws.an_object_asks_at_the_trigger.Goals as goal

pub returns : goal.returns
returns c = asks_at_the_trigger
