use Rattle.gh_mutator.proofs.Deeds.{each_operation_acts_once}
use Rattle.gh_mutator.proofs.laws.each_operation_acts_once.Goals as goal

pub returns : goal.returns
returns c = each_operation_acts_once
