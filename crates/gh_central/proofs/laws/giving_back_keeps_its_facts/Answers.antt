use Rattle.gh_central.proofs.laws.giving_back_keeps_its_facts.Goals as goal
use Rattle.gh_central.proofs.GiveRights.{gives_by_its_rights}

pub returns : goal.returns
returns c = gives_by_its_rights (record { follow = c.rights_follow.ensures.follow })
