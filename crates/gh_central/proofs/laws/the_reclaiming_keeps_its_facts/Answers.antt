use Rattle.gh_central.proofs.ReclaimSweeps.{reclaims_by_its_rights}
use Rattle.gh_central.proofs.laws.the_reclaiming_keeps_its_facts.Goals as goal

pub returns : goal.returns
returns c = reclaims_by_its_rights (record { packed = c.packed_words_are_read_back.ensures; last = c.facts_last.ensures.last; walks = c.facts_last.ensures.walks; freeing = c.rights_follow.ensures.freeing; leave = c.rights_follow.ensures.leave; apart = c.the_heap_is_apart.ensures })
