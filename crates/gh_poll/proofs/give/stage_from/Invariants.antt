use Rattle.std.proofs.Common.{◌≡◌}
use Rattle.gh_poll.proofs.Vocabulary.{stage_from}
use Rattle.gh_poll.proofs.give.stage_from.Given as goal

abbrev pub invariant-loop-class : goal.invariant-loop-class
invariant-loop-class l = stage_from l.cache l.from ≡ stage_from l.cache l.class
