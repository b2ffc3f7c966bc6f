use Rattle.gh_central.proofs.Lacking.{test_is}
use Rattle.gh_central.proofs.slots.lacks_slot.Goals as goal

pub returns-clause-is : goal.returns-clause-is
returns-clause-is c = test_is _ _ _ _ _ c.some_clear.result c.some_clear.ensures
