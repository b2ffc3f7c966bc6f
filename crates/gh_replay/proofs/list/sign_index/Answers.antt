use Rattle.std.proofs.Common.{arith}
use Rattle.gh_replay.proofs.Vocabulary.{is_sign}
use Rattle.gh_replay.proofs.Pieces.{met_nowhere}
use Rattle.gh_replay.proofs.list.sign_index.Goals as goal

pub returns-clause-at : goal.returns-clause-at
returns-clause-at c = met_nowhere is_sign c.args.piece.now c.loop-i.i (omega arith) c.loop-i.invariant
