use Rattle.gh_base.proofs.Folding.{folded}
use Rattle.gh_base.proofs.laws.steps_are_folded.Goals as goal

pub returns : goal.returns
returns g c = folded
