use Rattle.gh_assist.proofs.laws.taking_and_scanning_are_within.Goals as goal
use Rattle.gh_assist.proofs.Within.{routines_are_within}

pub returns : goal.returns
returns c = routines_are_within
