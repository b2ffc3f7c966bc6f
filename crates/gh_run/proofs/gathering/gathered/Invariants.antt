use Rattle.std.proofs.Common.{◌≡◌, length}
use Rattle.gh_run.proofs.Vocabulary.{into_iter_items, into_iter_len}
use Rattle.gh_run.proofs.Carried.{Midway}
use Rattle.gh_run.proofs.gathering.gathered.Given as goal

abbrev pub invariant-loop-job : goal.invariant-loop-job
invariant-loop-job g l = record {
  midway : Midway l.script l.heap l.fn.done.items (into_iter_items l.job-iterator) l.all;
  left : into_iter_len l.job-iterator ≡ length (into_iter_items l.job-iterator);
}
