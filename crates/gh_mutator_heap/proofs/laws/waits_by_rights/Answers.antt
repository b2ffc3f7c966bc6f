use Rattle.gh_mutator_heap.proofs.Holding.Waits.{waits_by_rights}
use Rattle.gh_mutator_heap.proofs.laws.waits_by_rights.Goals as goal

pub returns : goal.returns
returns c = waits_by_rights (record { follow = c.rights_follow.ensures.follow; own = c.rights_follow.ensures.own }) c.polls_by_rights.ensures
