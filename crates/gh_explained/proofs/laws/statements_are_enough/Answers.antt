use Rattle.gh_explained.proofs.Along.{statements_are_enough}
use Rattle.gh_explained.proofs.laws.statements_are_enough.Goals as goal

pub returns : goal.returns
returns c = statements_are_enough c.every_run_stands.ensures.lists c.only_points_change.ensures c.each_operation_acts_once.ensures
