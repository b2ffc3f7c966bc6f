-- The coordinator has a further step exactly where it is not done.
use Rattle.std.proofs.Common.{arith}
use Rattle.gh_coord.specs.GoingOn.{GoesOnUntilDone}

pub goes_on : GoesOnUntilDone
goes_on = grind arith
