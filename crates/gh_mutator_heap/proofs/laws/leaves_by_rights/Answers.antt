use Rattle.gh_mutator_heap.proofs.Holding.Leaves.{leaves_by_rights}
use Rattle.gh_mutator_heap.proofs.laws.leaves_by_rights.Goals as goal

pub returns : goal.returns
returns c = leaves_by_rights (record { follow = c.rights_follow.ensures.follow; own = c.rights_follow.ensures.own })
