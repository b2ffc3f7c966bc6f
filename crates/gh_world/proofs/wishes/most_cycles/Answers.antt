use Rattle.std.proofs.Common.{arith}
use Rattle.gh_world.proofs.Vocabulary.{no_goroutine, sum_by-take-le, sum_by_more_le, wishes_in}
use Rattle.gh_world.proofs.Wishing.{few_wishes}
use Rattle.gh_world.proofs.wishes.most_cycles.Goals as goal

pub overflow_add-wishes : goal.overflow_add-wishes
overflow_add-wishes c =
    let gs = c.args.script.now.goroutines in
    omega (arith, c.loop-g.invariant.so_far, sum_by_more_le wishes_in gs c.loop-g.g no_goroutine (omega (arith, c.loop-g-test.true, c.goroutines-g-end.ensures)), few_wishes gs, c.is_well_formed.ensures.few_statements, c.wishes_of-wishes.ensures)

pub overflow_mul-result : goal.overflow_mul-result
overflow_mul-result c =
    let gs = c.args.script.now.goroutines in
    omega (arith, c.loop-g.invariant.so_far, sum_by-take-le wishes_in gs c.loop-g.g, few_wishes gs, c.is_well_formed.ensures.few_statements)

pub overflow_add-result : goal.overflow_add-result
overflow_add-result c =
    let gs = c.args.script.now.goroutines in
    omega (arith, c.loop-g.invariant.so_far, sum_by-take-le wishes_in gs c.loop-g.g, few_wishes gs, c.is_well_formed.ensures.few_statements)

pub returns-clause-few : goal.returns-clause-few
returns-clause-few c =
    let gs = c.args.script.now.goroutines in
    omega (arith, c.loop-g.invariant.so_far, sum_by-take-le wishes_in gs c.loop-g.g, few_wishes gs, c.is_well_formed.ensures.few_statements)
