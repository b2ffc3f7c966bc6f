use Rattle.std.proofs.Common.{◌^◌, ◌∙◌}
use Rattle.gh_script.proofs.Numbers.{read_more, read_stops, read_all, digits_value_of-reads}
use Rattle.gh_script.proofs.word.digits_value.Goals as goal

pub loop-b-preserved : goal.loop-b-preserved
loop-b-preserved c = read_more (2 ^ 64) c.loop-b.value c.loop-b.b-index c.in-Some.next c.args.digits.now _ c.loop-b-test.true c.in-Some.ensures c.loop-b.invariant

pub returns-in-None : goal.returns-in-None
returns-in-None c = read_stops (2 ^ 64) c.loop-b.value c.loop-b.b-index c.args.digits.now _ c.loop-b-test.true c.in-None.ensures c.loop-b.invariant ∙ digits_value_of-reads c.args.digits.now

pub returns : goal.returns
returns c = read_all (2 ^ 64) c.loop-b.value c.loop-b.b-index c.args.digits.now _ c.loop-b-test.false c.loop-b.invariant ∙ digits_value_of-reads c.args.digits.now
