use Rattle.gh_pages.proofs.laws.the_carve_keeps_its_facts.Goals as goal
use Rattle.gh_pages.proofs.Owning.{carves_by_its_rights}

pub returns : goal.returns
returns c = carves_by_its_rights (record { packed = c.packed_words_are_read_back.ensures; keep = c.each_move_keeps.ensures; last = c.facts_last.ensures.last; follow = c.rights_follow.ensures.follow; leave = c.rights_follow.ensures.leave; apart = c.the_heap_is_apart.ensures })
