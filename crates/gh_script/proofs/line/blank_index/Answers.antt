use Rattle.std.proofs.Common.{arith}
use Rattle.gh_script.proofs.Vocabulary.{is_blank}
use Rattle.gh_script.proofs.Pieces.{met_nowhere}
use Rattle.gh_script.proofs.line.blank_index.Goals as goal

pub returns-clause-at : goal.returns-clause-at
returns-clause-at c = met_nowhere is_blank c.args.line.now c.loop-i.i (omega arith) c.loop-i.invariant
