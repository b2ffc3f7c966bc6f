use Rattle.std.proofs.Common.{◌≡◌, ◌++◌, take}
use Rattle.gh_run.proofs.Vocabulary.{answers_by, of_goroutine, vec_capacity}
use Rattle.gh_run.proofs.telling.add_answers.Given as goal

abbrev pub invariant-loop-h : goal.invariant-loop-h
invariant-loop-h l = record {
  added : l.answers.items ≡ l.initial.answers.items ++ of_goroutine l.g (answers_by l.g (take l.h-index l.from));
  capacity : vec_capacity l.answers ≡ vec_capacity l.initial.answers;
}
