use Rattle.std.proofs.Common.{◌≡◌, ◌-◌, drop, slice_get}
use Rattle.gh_run.proofs.Vocabulary.{answers_by}
use Rattle.gh_run.proofs.telling.answer_among.Given as goal

abbrev pub invariant-loop-i : goal.invariant-loop-i
invariant-loop-i l = record {
  same : slice_get (answers_by l.g l.answers) (l.n - 1) ≡ slice_get (answers_by l.g (drop l.i l.answers)) l.left;
}
