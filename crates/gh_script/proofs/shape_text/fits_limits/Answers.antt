use Rattle.std.proofs.Common.{sym, ◌∙◌}
use Rattle.gh_script.proofs.Vocabulary.{fits_limits}
use Rattle.gh_script.proofs.Items.{fits_behind-end}
use Rattle.gh_script.proofs.shape_text.fits_limits.Goals as goal

pub returns-in-None : goal.returns-in-None
unfolding fits_limits
returns-in-None c = sym c.in-None.ensures ∙ c.loop-i.invariant.1

pub returns : goal.returns
unfolding fits_limits
returns c = fits_behind-end c.args.word.now c.loop-i.i c.loop-i.total _ c.loop-i.invariant.0 c.loop-i-test.false c.loop-i.invariant.1
