use Rattle.gh_bitmap.proofs.laws.setting_keeps_its_facts.Goals as goal
use Rattle.gh_bitmap.proofs.Rights.{sets_by_its_rights}

pub returns : goal.returns
returns c = sets_by_its_rights (record { last = c.facts_last.ensures.last; follow = c.rights_follow.ensures.follow; apart = c.the_heap_is_apart.ensures; bits = c.each_step_is_on_its_bits.ensures })
