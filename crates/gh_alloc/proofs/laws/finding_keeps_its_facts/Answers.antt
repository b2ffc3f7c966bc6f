use Rattle.gh_alloc.proofs.laws.finding_keeps_its_facts.Goals as goal
use Rattle.gh_alloc.proofs.FindRights.{finds_by_its_rights}

pub returns : goal.returns
returns c = finds_by_its_rights (record {
  search = c.the_search_keeps_its_facts.ensures;
  pass = c.the_pass_keeps_its_facts.ensures;
  unswept = c.the_unswept_pass_keeps_its_facts.ensures;
  give = c.giving_back_keeps_its_facts.ensures;
  carve = c.the_carve_keeps_its_facts.ensures;
  follow = c.rights_follow.ensures.follow;
  last = c.facts_last.ensures.last;
  walks = c.facts_last.ensures.walks;
  own = c.rights_follow.ensures.own;
  some_page = c.size_class_laws.ensures.some_page;
  few_pages = c.size_class_laws.ensures.few_pages;
})
