use Rattle.std.proofs.Common.{◌≡◌, drop}
use Rattle.gh_poll.proofs.Vocabulary.{first_due}
use Rattle.gh_poll.proofs.poll.first_due.Given as goal

abbrev pub invariant-loop-g : goal.invariant-loop-g
invariant-loop-g l = first_due l.layout l.seat l.cycle 0 l.scanned ≡ first_due l.layout l.seat l.cycle l.g (drop l.g l.scanned)
