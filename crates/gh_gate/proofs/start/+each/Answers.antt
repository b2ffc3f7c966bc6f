use Rattle.std.proofs.Common.{rules}
use Rattle.gh_gate.proofs.Places.{as_told_too}
use Rattle.gh_gate.proofs.start.+each.Goals as goal

pub returns-in-Ok-clause-did : goal.returns-in-Ok-clause-did
returns-in-Ok-clause-did g t c =
    let J = g.J.Job in let back = c.join-back.result in let rest = c.each-told in
    as_told_too J.ended J.which rest.result.value back.told.value c.pop.new.self.items rest.new.jobs.items c.args.jobs.now.items c.push_reserved.new.self.items
    c.in-Some.job back.job c.agrees.ensures rest.ensures.did (search rules) (search rules) c.push_reserved.ensures.items

pub returns-in-Err-clause-did : goal.returns-in-Err-clause-did
returns-in-Err-clause-did g t c =
    let J = g.J.Job in let back = c.spawn_with-back.result in let rest = c.each-told-in-Err in
    as_told_too J.ended J.which rest.result.value back.told.value c.pop.new.self.items rest.new.jobs.items c.args.jobs.now.items c.push_reserved-in-Err.new.self.items
    c.in-Some.job back.job (search rules) rest.ensures.did (search rules) (search rules) c.push_reserved-in-Err.ensures.items
