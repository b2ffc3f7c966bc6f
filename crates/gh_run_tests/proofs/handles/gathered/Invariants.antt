use Rattle.std.proofs.Common.{All}
use Rattle.std.specs.Vec.Iter.{into_iter_items}
use Rattle.gh_shared.specs.Handles.{IsHandleOf}
use Rattle.gh_run_tests.proofs.handles.gathered.Given as goal

abbrev pub invariant-loop-job : goal.invariant-loop-job
invariant-loop-job l = All (λ j. IsHandleOf l.fn.heap j.handle) (into_iter_items l.job-iterator) × IsHandleOf l.fn.heap l.last
