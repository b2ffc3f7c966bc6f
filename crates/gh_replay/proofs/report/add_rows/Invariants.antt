use Rattle.std.proofs.Common.{◌≡◌, ◌++◌, ◌≤◌, length, take}
use Rattle.gh_replay.proofs.Vocabulary.{answers_by, rows_from, vec_capacity}
use Rattle.gh_replay.proofs.report.add_rows.Given as goal

abbrev pub invariant-loop-h : goal.invariant-loop-h
invariant-loop-h l = record {
  counted : l.n ≡ length (answers_by l.g (take l.h-index l.answers));
  few : l.n ≤ l.h-index;
  rows : l.rows.items ≡ l.initial.rows.items ++ rows_from l.g 1 (answers_by l.g (take l.h-index l.answers));
  capacity : vec_capacity l.rows ≡ vec_capacity l.initial.rows;
}
