use Rattle.gh_assist.proofs.laws.assists_try_the_bank_first.Goals as goal
use Rattle.gh_assist.proofs.BankFirst.{assists_try_the_bank_first}

pub returns : goal.returns
returns c = assists_try_the_bank_first
