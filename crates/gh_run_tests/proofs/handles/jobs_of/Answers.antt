use Rattle.std.proofs.Common.{◌≡◌, [], ◌∷◌, refl}
use Rattle.std.proofs.lemmas.List.Elements.{All-push, All-rest, All-same}
use Rattle.std.specs.Vec.Iter.{into_iter_items}
use Rattle.gh_shared.specs.Handles.{IsHandleOf, IsHeapOf}
use Rattle.gh_run_tests.specs.declared.handles.Runner.{Runner}
use Rattle.gh_run_tests.proofs.Running.{first_of}
use Rattle.gh_run_tests.proofs.handles.jobs_of.Goals as goal

pub loop-handle-preserved : goal.loop-handle-preserved
loop-handle-preserved c =
    let heap = c.args.heap.now in let was = c.loop-handle.invariant in let is = c.in-Some.ensures.steps.0 in
    let rest = into_iter_items c.next.new.self in let all = into_iter_items c.loop-handle.handle-iterator in let h = c.in-Some.handle in
    let of = first_of (IsHandleOf heap) h rest all is was.0 in
    let IsJobOf : Runner → Type 0 = λ j. (j.heap.now ≡ heap) × IsHandleOf heap j.handle × IsHeapOf j.script.now heap in (
      All-rest (IsHandleOf heap) h rest all is was.0,
      All-same IsJobOf c.push.new.self.items _ c.in_ok-push.ensures.items (All-push IsJobOf c.loop-handle.jobs.items _ was.1 (refl, of, c.requires.script)),
    )
