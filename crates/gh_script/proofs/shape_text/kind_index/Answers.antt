use Rattle.std.proofs.Common.{arith}
use Rattle.gh_script.proofs.Vocabulary.{is_kind}
use Rattle.gh_script.proofs.Pieces.{met_nowhere}
use Rattle.gh_script.proofs.shape_text.kind_index.Goals as goal

pub returns-clause-at : goal.returns-clause-at
returns-clause-at c = met_nowhere is_kind c.args.word.now c.loop-i.i (omega arith) c.loop-i.invariant
