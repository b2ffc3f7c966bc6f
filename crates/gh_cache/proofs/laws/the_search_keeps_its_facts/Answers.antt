use Rattle.gh_cache.proofs.laws.the_search_keeps_its_facts.Goals as goal
use Rattle.gh_cache.proofs.Rights.{searches_by_its_rights}

pub returns : goal.returns
returns c = searches_by_its_rights (record { apart = c.the_heap_is_apart.ensures; least_slot = c.size_class_laws.ensures.least_slot })
