use Rattle.std.proofs.Common.{◌≡◌, ◌≤◌, length, take, sum_by}
use Rattle.gh_run.proofs.Vocabulary.{statements_in, total_of, vec_capacity}
use Rattle.gh_run.proofs.Answered.{Its}
use Rattle.gh_run.proofs.Goroutines.{AreTold}
use Rattle.gh_run.proofs.gathering.all_told.Given as goal

abbrev pub invariant-loop-g : goal.invariant-loop-g
invariant-loop-g g l = record {
  within : l.g ≤ length l.script.goroutines;
  told : AreTold l.answers.items (Its l.script l.heap l.done) l.g;
  few : length l.answers.items ≤ sum_by statements_in (take l.g l.script.goroutines);
  capacity : vec_capacity l.answers ≡ total_of l.script;
}
