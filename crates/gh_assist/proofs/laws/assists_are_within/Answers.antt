use Rattle.gh_assist.proofs.laws.assists_are_within.Goals as goal
use Rattle.gh_assist.proofs.Within.{assists_are_within}

pub returns : goal.returns
returns c = assists_are_within
