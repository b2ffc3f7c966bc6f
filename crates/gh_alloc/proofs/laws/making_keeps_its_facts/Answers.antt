use Rattle.gh_alloc.proofs.laws.making_keeps_its_facts.Goals as goal
use Rattle.gh_alloc.proofs.PlaceRights.{places_by_its_rights}

pub returns : goal.returns
returns c = places_by_its_rights (record { rows = c.rows_are_written.ensures; follow = c.rights_follow.ensures.follow; bits = c.setting_keeps_its_facts.ensures; give = c.giving_back_keeps_its_facts.ensures; apart = c.the_heap_is_apart.ensures })
