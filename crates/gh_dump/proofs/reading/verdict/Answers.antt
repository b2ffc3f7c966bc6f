use Rattle.gh_dump.proofs.Ended.{accepted, line_faults, total_missing}
use Rattle.gh_dump.proofs.reading.verdict.Goals as goal

pub returns-in-Err : goal.returns-in-Err
returns-in-Err c = line_faults c.args.text.now c.in-Err.fault c.requires c.in-Err.ensures.fault

pub returns-then-before : goal.returns-then-before
returns-then-before c = accepted c.args.text.now c.in-Ok.before c.fill.new.index c.requires c.in-Ok.ensures.right c.in_ok-fill.ensures c.if-before.true

pub returns : goal.returns
returns c = total_missing c.args.text.now c.in-Ok.before c.requires c.in-Ok.ensures.right c.if-before.false
