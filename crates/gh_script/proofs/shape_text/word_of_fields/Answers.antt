use Rattle.std.proofs.Common.{◌≡◌, length, arith, false, cond, get_or, ◌-◌, ◌+◌, ◌*◌, ap, ◌∙◌}
use Rattle.gh_script.proofs.shape_text.word_of_fields.Goals as goal
use Rattle.gh_script.proofs.Packing.{word_of-end, word_of-more, word_of-small, bit_small, from_bool-is}

pub loop-i-init : goal.loop-i-init
loop-i-init c = (omega arith, word_of-end c.args.fields.now (length c.args.fields.now) (omega arith))

pub overflow_mul-word : goal.overflow_mul-word
overflow_mul-word c = omega (arith, word_of-small c.args.fields.now c.loop-i.i c.loop-i.word (omega arith) c.requires c.loop-i.invariant.1)

pub overflow_add-word : goal.overflow_add-word
overflow_add-word c =
    let bit : c.from.result ≡ cond (get_or c.args.fields.now (c.loop-i.i - 1) false) 1 0 = c.from.ensures ∙ from_bool-is _ in
    omega (arith, word_of-small c.args.fields.now c.loop-i.i c.loop-i.word (omega arith) c.requires c.loop-i.invariant.1, bit_small (get_or c.args.fields.now (c.loop-i.i - 1) false))

pub loop-i-preserved : goal.loop-i-preserved
loop-i-preserved c =
    let bit : c.from.result ≡ cond (get_or c.args.fields.now (c.loop-i.i - 1) false) 1 0 = c.from.ensures ∙ from_bool-is _ in
    (omega arith, ap (λ b. 2 * c.loop-i.word + b) bit ∙ word_of-more c.args.fields.now c.loop-i.i c.loop-i.word (omega arith) c.loop-i.invariant.0 c.loop-i.invariant.1)
