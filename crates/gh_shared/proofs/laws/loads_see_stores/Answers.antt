use Rattle.gh_shared.proofs.laws.loads_see_stores.Goals as goal

pub returns : goal.returns
returns c p = c.loads_see_stores.ensures p.script.shapes p.layout
