use Rattle.gh_dump.proofs.Ended.{answers_count, answers_fault, refusal}
use Rattle.gh_dump.proofs.reading.verify.Goals as goal

pub returns-clause-refused : goal.returns-clause-refused
returns-clause-refused c = refusal c.args.text.now c.check.result c.check.ensures

pub returns-clause-counted : goal.returns-clause-counted
returns-clause-counted c = answers_count c.args.text.now c.check.result c.check.ensures

pub returns-clause-faulted : goal.returns-clause-faulted
returns-clause-faulted c = answers_fault c.args.text.now c.check.result c.check.ensures
