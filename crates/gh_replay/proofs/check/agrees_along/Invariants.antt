use Rattle.std.proofs.Common.{List, drop}
use Rattle.gh_replay.proofs.Vocabulary.{Answered, AreAlong}
use Rattle.gh_replay.proofs.Beside.{Midway}
use Rattle.gh_replay.proofs.check.agrees_along.Given as goal

abbrev pub invariant-loop-g : goal.invariant-loop-g
invariant-loop-g l = record {
  midway : (xs : List Answered) → AreAlong l.script l.points l.answers xs → Midway l.script xs (drop l.g-index xs) l.told l.ever;
}
