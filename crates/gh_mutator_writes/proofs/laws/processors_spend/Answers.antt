use Rattle.gh_mutator_writes.proofs.Spending.{processors_spend}
use Rattle.gh_mutator_writes.proofs.laws.processors_spend.Goals as goal

pub returns : goal.returns
returns c = processors_spend c.assists_pay.ensures c.a_processor_writes_its_own.ensures
