use Rattle.gh_base.proofs.Writing.{cells}
use Rattle.gh_base.proofs.laws.cells_are_told.Goals as goal

pub returns : goal.returns
returns c = cells
