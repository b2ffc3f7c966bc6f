use Rattle.gh_script.proofs.Vocabulary.{fields_of}
use Rattle.gh_script.proofs.Items.{spread-end}
use Rattle.gh_script.proofs.shape_text.fields.Goals as goal

pub returns : goal.returns
unfolding fields_of
returns c = spread-end c.args.word.now c.loop-i.i _ c.loop-i-test.false c.loop-i.invariant
