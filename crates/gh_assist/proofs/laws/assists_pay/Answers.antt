use Rattle.gh_assist.proofs.laws.assists_pay.Goals as goal
use Rattle.gh_assist.proofs.Paying.{assists_pay}

pub returns : goal.returns
returns c = assists_pay c.credit_is_drawn.ensures
