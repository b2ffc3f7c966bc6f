use Rattle.gh_cycle.proofs.Going.Deeds.{deeds-go}
use Rattle.gh_cycle.proofs.beside.deeds_go_beside.Goals as goal

pub returns : goal.returns
returns c = deeds-go c.laws_are_known.ensures
