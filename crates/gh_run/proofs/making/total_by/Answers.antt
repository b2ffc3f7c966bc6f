use Rattle.std.proofs.Common.{◌+◌, ◌<◌, length, arith}
use Rattle.gh_run.proofs.Vocabulary.{statements_in, sum_by-take-le}
use Rattle.gh_run.proofs.Seats.{few_more, its_more}
use Rattle.gh_run.proofs.making.total_by.Goals as goal

pub overflow_add-total : goal.overflow_add-total
overflow_add-total c =
    let gs = c.args.script.now.goroutines in
    let lt : c.loop-g.g < length gs = omega (arith, c.loop-g-test.true, c.goroutines-g-end.ensures) in
    omega (arith, few_more c.args.script.now c.args.seat c.loop-g.g c.loop-g.total lt c.loop-g.invariant.few, sum_by-take-le statements_in gs (c.loop-g.g + 1), c.is_well_formed.ensures.few_statements, c.count_by.ensures)

pub loop-g-preserved : goal.loop-g-preserved
loop-g-preserved c =
    let gs = c.args.script.now.goroutines in
    let lt : c.loop-g.g < length gs = omega (arith, c.loop-g-test.true, c.goroutines-g-end.ensures) in
    record {
      within = omega (arith, lt);
      so_far = omega (arith, its_more c.args.script.now c.args.seat c.loop-g.g, c.loop-g.invariant.so_far, c.count_by.ensures);
      few = omega (arith, few_more c.args.script.now c.args.seat c.loop-g.g c.loop-g.total lt c.loop-g.invariant.few, c.count_by.ensures);
    }
