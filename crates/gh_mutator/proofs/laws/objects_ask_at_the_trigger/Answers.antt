use Rattle.gh_mutator.proofs.Asking.{asks_at_the_trigger}
use Rattle.gh_mutator.proofs.laws.objects_ask_at_the_trigger.Goals as goal

pub returns : goal.returns
returns c = asks_at_the_trigger c.an_object_asks_at_the_trigger.ensures
