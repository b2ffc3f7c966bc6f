use Rattle.std.proofs.Common.{arith}
use Rattle.gh_script.proofs.Vocabulary.{is_feed}
use Rattle.gh_script.proofs.Pieces.{met_nowhere}
use Rattle.gh_script.proofs.line.feed_index.Goals as goal

pub returns-clause-at : goal.returns-clause-at
returns-clause-at c = met_nowhere is_feed c.args.text.now c.loop-i.i (omega arith) c.loop-i.invariant
