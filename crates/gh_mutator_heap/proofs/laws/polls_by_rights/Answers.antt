use Rattle.gh_mutator_heap.proofs.Holding.Polls.{polls_by_rights}
use Rattle.gh_mutator_heap.proofs.laws.polls_by_rights.Goals as goal

pub returns : goal.returns
returns c = polls_by_rights (record { follow = c.rights_follow.ensures.follow; own = c.rights_follow.ensures.own })
