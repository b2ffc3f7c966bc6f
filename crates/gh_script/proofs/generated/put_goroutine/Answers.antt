use Rattle.gh_script.proofs.Vocabulary.{statements_drawn}
use Rattle.gh_script.proofs.Writing.{goroutine_ended}
use Rattle.gh_script.proofs.generated.put_goroutine.Goals as goal

pub returns-clause-text : goal.returns-clause-text
returns-clause-text c =
    goroutine_ended c.put-2.result c.args.text.now.items c.put_number.new.text.items c.put.new.text.items c.put_statements.new.text.items c.put-2.new.text.items c.args.g (statements_drawn c.args.draws.now c.args.g c.args.n)
    c.in_ok-put_number.ensures c.in_ok-put.ensures c.in_ok-put_statements.ensures.text c.put-2.ensures
