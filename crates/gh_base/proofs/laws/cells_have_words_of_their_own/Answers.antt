use Rattle.gh_base.proofs.Apart.{word_below, word_of-injective}
use Rattle.gh_base.proofs.laws.cells_have_words_of_their_own.Goals as goal

pub returns-clause-apart : goal.returns-clause-apart
returns-clause-apart c = word_of-injective c.args.layout.now

pub returns-clause-below : goal.returns-clause-below
returns-clause-below c = word_below c.args.layout.now
