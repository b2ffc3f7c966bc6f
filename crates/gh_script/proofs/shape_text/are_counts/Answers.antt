use Rattle.gh_script.proofs.Vocabulary.{are_counts, has_count}
use Rattle.gh_script.proofs.Items.{all_end}
use Rattle.gh_script.proofs.shape_text.are_counts.Goals as goal

pub returns : goal.returns
unfolding are_counts
returns c = all_end has_count c.args.word.now c.loop-i.i _ c.loop-i-test.false c.loop-i.invariant
