use Rattle.std.proofs.Common.{◌∙◌, arith}
use Rattle.gh_script.proofs.Packing.{packed-all, packed-more}
use Rattle.gh_script.proofs.shape_text.packed.Goals as goal

pub returns : goal.returns
returns c = packed-all c.args.fields.now _ c.loop-i.i (omega arith) c.loop-i.invariant

pub loop-i-preserved : goal.loop-i-preserved
loop-i-preserved c = c.in_ok-push.ensures.items ∙ packed-more c.args.fields.now _ c.loop-i.i _ c.loop-i.invariant c.packed_word.ensures
