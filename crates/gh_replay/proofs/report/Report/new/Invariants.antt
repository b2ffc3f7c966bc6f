use Rattle.std.proofs.Common.{◌≡◌, ◌≤◌, length}
use Rattle.gh_replay.proofs.Vocabulary.{rows_of, vec_capacity}
use Rattle.gh_replay.proofs.report.Report.new.Given as goal

abbrev pub invariant-loop-g : goal.invariant-loop-g
invariant-loop-g l = record {
  rows : l.rows.items ≡ rows_of l.g l.answers.items;
  room : length l.answers.items ≤ vec_capacity l.rows;
}
