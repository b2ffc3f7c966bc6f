use Rattle.std.proofs.Common.{length, ap, arith}
use Rattle.gh_script.proofs.Items.{length-fields_of}
use Rattle.gh_script.proofs.shape_text.shape.Goals as goal

pub shape_with-requires : goal.shape_with-requires
shape_with-requires c = let few = length-fields_of c.args.word.now c.requires in omega (arith, ap length c.in_ok-fields.ensures, ap length c.deref.ensures.value)
