use Rattle.std.proofs.Common.{◌≡◌, All}
use Rattle.std.specs.Vec.Iter.{into_iter_items}
use Rattle.gh_shared.specs.Handles.{IsHandleOf, IsHeapOf}
use Rattle.gh_run_tests.proofs.handles.jobs_of.Given as goal

abbrev pub invariant-loop-handle : goal.invariant-loop-handle
invariant-loop-handle l = All (IsHandleOf l.fn.heap) (into_iter_items l.handle-iterator) × All (λ j. (j.heap.now ≡ l.fn.heap) × IsHandleOf l.fn.heap j.handle × IsHeapOf j.script.now l.fn.heap) l.jobs.items
