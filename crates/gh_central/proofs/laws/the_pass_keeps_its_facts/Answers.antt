use Rattle.gh_central.proofs.laws.the_pass_keeps_its_facts.Goals as goal
use Rattle.gh_central.proofs.PassRights.{passes_by_its_rights}

pub returns : goal.returns
returns c = passes_by_its_rights (record { packed = c.packed_words_are_read_back.ensures; keep = c.each_move_keeps.ensures; last = c.facts_last.ensures.last; follow = c.rights_follow.ensures.follow; leave = c.rights_follow.ensures.leave; apart = c.the_heap_is_apart.ensures; test = c.the_test_says_it.ensures; least_slot = c.size_class_laws.ensures.least_slot })
