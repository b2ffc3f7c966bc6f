use Rattle.gh_mutator.proofs.Deeds.{only_points_change}
use Rattle.gh_mutator.proofs.laws.only_points_change.Goals as goal

pub returns : goal.returns
returns c = only_points_change
