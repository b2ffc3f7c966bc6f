use Rattle.gh_script.proofs.Vocabulary.{has_no_stray}
use Rattle.gh_script.proofs.Items.{all_end}
use Rattle.gh_script.proofs.shape_text.have_no_stray.Goals as goal

pub returns : goal.returns
returns c = all_end has_no_stray c.args.word.now c.loop-i.i _ c.loop-i-test.false c.loop-i.invariant
