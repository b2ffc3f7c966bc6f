use Rattle.std.proofs.Common.{Some}
use Rattle.std.proofs.lemmas.List.Elements.{All-pop, All-rest, All-same}
use Rattle.std.specs.Vec.Iter.{into_iter_items}
use Rattle.gh_shared.specs.Handles.{IsHandleOf}
use Rattle.gh_run_tests.proofs.Running.{first_of}
use Rattle.gh_run_tests.proofs.handles.gathered.Goals as goal

pub loop-job-init : goal.loop-job-init
loop-job-init c =
    let both = All-pop (λ j. IsHandleOf c.args.heap.now j.handle) c.args.done.items c.pop.new.self.items (Some c.in-Some.field-0) c.in-Some.ensures.items c.requires in
    (All-same (λ j. IsHandleOf c.args.heap.now j.handle) (into_iter_items c.into_iter-job-iterator.result) c.pop.new.self.items c.into_iter-job-iterator.ensures.into_iter_gives.0 both.0, both.1)

pub gather-requires-clause-other : goal.gather-requires-clause-other
gather-requires-clause-other c = first_of (λ j. IsHandleOf c.args.heap.now j.handle) c.in-Some-job.job (into_iter_items c.next.new.self) (into_iter_items c.loop-job.job-iterator) c.in-Some-job.ensures.steps.0 c.loop-job.invariant.0

pub loop-job-preserved : goal.loop-job-preserved
loop-job-preserved c = (All-rest (λ j. IsHandleOf c.args.heap.now j.handle) c.in-Some-job.job (into_iter_items c.next.new.self) (into_iter_items c.loop-job.job-iterator) c.in-Some-job.ensures.steps.0 c.loop-job.invariant.0, c.gather.ensures.of)
