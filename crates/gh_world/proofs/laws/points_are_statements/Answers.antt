use Rattle.gh_world.proofs.Points.Numbered.{points_are_statements}
use Rattle.gh_world.proofs.laws.points_are_statements.Goals as goal

pub returns : goal.returns
returns c = points_are_statements c.each_operation_acts_once.ensures
