use Rattle.gh_alloc.proofs.SearchRights.{seeks_by_its_rights}
use Rattle.gh_alloc.proofs.laws.searching_keeps_its_facts.Goals as goal

pub returns : goal.returns
returns c = seeks_by_its_rights (record { last = c.facts_last.ensures.last; walks = c.facts_last.ensures.walks; own = c.rights_follow.ensures.own; keep = c.each_move_keeps.ensures; find = c.finding_keeps_its_facts.ensures; free = c.the_reclaiming_keeps_its_facts.ensures })
