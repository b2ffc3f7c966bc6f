use Rattle.std.proofs.Common.{◌+◌, ◌-◌, ◌*◌, ◌^◌, ◌<◌, arith}
use Rattle.gh_dump.proofs.Letters.{read_fits, read_more, read_none}
use Rattle.gh_dump.proofs.spelled.letters.Goals as goal

pub loop-left-init : goal.loop-left-init
loop-left-init c = read_none c.args.goroutine.now

pub overflow_mul-value : goal.overflow_mul-value
overflow_mul-value c =
    let fits : c.loop-left.value * 256 + 0 < 2 ^ 128 = read_fits c.args.goroutine.now c.loop-left.value c.loop-left.left 0 c.requires c.loop-left.invariant c.loop-left-test.true (omega arith) in
    omega arith

pub overflow_add-value : goal.overflow_add-value
overflow_add-value c =
    let byte : c.from.result < 256 = omega (arith, c.from.ensures, c.type_inv.goroutine (c.loop-left.left - 1)) in
    let fits : c.loop-left.value * 256 + c.from.result < 2 ^ 128 = read_fits c.args.goroutine.now c.loop-left.value c.loop-left.left c.from.result c.requires c.loop-left.invariant c.loop-left-test.true byte in
    omega arith

pub loop-left-preserved : goal.loop-left-preserved
loop-left-preserved c =
    let byte : c.from.result < 256 = omega (arith, c.from.ensures, c.type_inv.goroutine (c.loop-left.left - 1)) in
    read_more c.args.goroutine.now c.loop-left.value c.loop-left.left c.from.result c.loop-left.invariant c.loop-left-test.true c.from.ensures byte
