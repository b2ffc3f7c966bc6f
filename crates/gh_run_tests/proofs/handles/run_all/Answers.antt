use Rattle.std.proofs.Common.{◌≡◌, ◌∙◌, subst}
use Rattle.gh_shared.specs.Handles.{IsHandleOf, IsHeapOf}
use Rattle.gh_run_tests.proofs.Running.{at_end}
use Rattle.gh_run_tests.proofs.handles.run_all.Goals as goal

pub gathered-requires : goal.gathered-requires
gathered-requires g c =
    let heap = c.args.heap.now in
    at_end (λ j. IsHandleOf j.heap.now j.handle) (λ j. j.heap.now) (λ j. (j.heap.now ≡ heap) × IsHandleOf heap j.handle × IsHeapOf j.script.now heap) (λ j. IsHandleOf heap j.handle)
    (λ was now of ended same. subst (λ x. IsHandleOf x now.handle) (same ∙ of.0) ended)
    c.in_ok-jobs.jobs.items c.in-Ok.done.items c.in_ok-jobs.ensures c.in-Ok.ensures.ran
