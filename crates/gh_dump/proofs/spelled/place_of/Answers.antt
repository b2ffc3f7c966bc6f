use Rattle.std.proofs.Common.{arith, ◌==◌}
use Rattle.gh_script.proofs.Pieces.{met_nowhere}
use Rattle.gh_dump.proofs.spelled.place_of.Goals as goal

pub returns-clause-at : goal.returns-clause-at
returns-clause-at c = met_nowhere (λ x. x == c.args.b) c.args.word.now c.loop-i.i (omega arith) c.loop-i.invariant
