use Rattle.std.proofs.Common.{arith}
use Rattle.gh_replay.proofs.Vocabulary.{is_comma}
use Rattle.gh_replay.proofs.Pieces.{met_nowhere}
use Rattle.gh_replay.proofs.list.comma_index.Goals as goal

pub returns-clause-at : goal.returns-clause-at
returns-clause-at c = met_nowhere is_comma c.args.text.now c.loop-i.i (omega arith) c.loop-i.invariant
