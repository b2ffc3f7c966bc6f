use Rattle.gh_base.proofs.Showing.{effect_at}
use Rattle.gh_base.proofs.laws.a_step_changes_one_cell.Goals as goal

pub returns : goal.returns
returns c = effect_at
