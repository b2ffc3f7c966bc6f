use Rattle.std.proofs.Common.{◌≡◌, ◌≤◌, length, take, sum_by}
use Rattle.gh_run.proofs.Vocabulary.{range_with_len, statements_in}
use Rattle.gh_run.proofs.Seats.{its}
use Rattle.gh_run.proofs.making.total_by.Given as goal

abbrev pub invariant-loop-g : goal.invariant-loop-g
invariant-loop-g l = record {
  within : l.g ≤ length l.script.goroutines;
  so_far : l.total ≡ sum_by (its l.script l.seat) (range_with_len 0 l.g);
  few : l.total ≤ sum_by statements_in (take l.g l.script.goroutines);
}
