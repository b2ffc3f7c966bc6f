use Rattle.std.proofs.Common.{◌≡◌, drop}
use Rattle.gh_replay.proofs.Vocabulary.{answers_by}
use Rattle.gh_replay.proofs.check.answer_index.Given as goal

abbrev pub invariant-loop-i : goal.invariant-loop-i
invariant-loop-i l = record {
  none : answers_by l.g (drop l.from l.answers) ≡ answers_by l.g (drop l.i l.answers);
}
