use Rattle.gh_mutator.proofs.Owing.{debts_are_dropped}
use Rattle.gh_mutator.proofs.laws.debts_are_dropped.Goals as goal

pub returns : goal.returns
returns c = debts_are_dropped
