use Rattle.std.proofs.Common.{◌≤◌, ◌<◌, ◌^◌, arith}
use Rattle.gh_bitmap.proofs.Vocabulary.{pow-lt, pow_mono}
use Rattle.gh_bitmap.proofs.bits.bits_between.Goals as goal

pub overflow_sub-result-else-high-eq64 : goal.overflow_sub-result-else-high-eq64
overflow_sub-result-else-high-eq64 c =
    let order : 2 ^ c.args.low ≤ 2 ^ c.args.high = pow_mono {i = c.args.low} {j = c.args.high} c.requires.order in
    let below : c.args.high < 64 = omega arith in
    let fits : 2 ^ c.args.high < 2 ^ 64 = pow-lt {i = c.args.high} {j = 64} below in
    omega arith
