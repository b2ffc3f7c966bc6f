use Rattle.gh_central.proofs.UnsweptRights.{sweeps_by_its_rights}
use Rattle.gh_central.proofs.laws.the_unswept_pass_keeps_its_facts.Goals as goal

pub returns : goal.returns
returns c = sweeps_by_its_rights (record { taking = record { packed = c.packed_words_are_read_back.ensures; keep = c.each_move_keeps.ensures; follow = c.rights_follow.ensures.follow; leave = c.rights_follow.ensures.leave; apart = c.the_heap_is_apart.ensures }; last = c.facts_last.ensures.last })
