use Rattle.std.proofs.Common.{rules, arith}
use Rattle.gh_script.proofs.Repeated.{none_behind, once_more, all_times}
use Rattle.gh_script.proofs.goroutine.repeat_from.Goals as goal

pub returns-then-start-end : goal.returns-then-start-end
returns-then-start-end c = none_behind c.args.times c.args.start c.args.statements.now.items (search rules)

pub loop-k-preserved : goal.loop-k-preserved
loop-k-preserved c =
    once_more c.loop-k._k c.args.start c.len-end.result c.args.statements.now.items c.loop-k.statements.items c.extend_from_within.new.self.items
    c.requires (search rules) c.loop-k.invariant c.in_ok-extend_from_within.ensures.items

pub returns : goal.returns
returns c =
    let some = c.if-times-eq0.false in
    let last = c.loop-k-test.false in
    let within = c.loop-k.auto._k-end in
    all_times c.loop-k._k c.args.times c.args.start c.args.statements.now.items c.loop-k.statements.items c.loop-k.invariant (omega arith)
