use Rattle.std.proofs.Common.{◌∙◌, ◌++◌, ◌∷◌, [], ap, arith, length, subst, sym}
use Rattle.gh_run.proofs.Vocabulary.{Gathered, Handle, into_iter_items, IsHandleOf}
use Rattle.gh_run.proofs.Carried.{all_gathered, Midway, midway_first, midway_more, next_there}
use Rattle.gh_run.proofs.Places.{none_left}
use Rattle.gh_run.proofs.gathering.gathered.Goals as goal

pub loop-job-init : goal.loop-job-init
loop-job-init g c =
    let gives = c.into_iter-job-iterator.ensures.into_iter_gives in
    let last = c.in-Some.last in
    let rest = into_iter_items c.into_iter-job-iterator.result in
    let whole = c.in-Some.ensures.items ∙ ap (λ xs. xs ++ last ∷ []) (sym gives.0) in
    let left = gives.1 in
    let long = ap length gives.0 in
    record {
      midway = subst (λ (h : Handle). Midway c.args.script.now c.args.heap.now c.args.done.items rest h) (sym c.into_handle-all.ensures) (midway_first c.args.script.now c.args.heap.now c.args.done.items rest last whole c.requires.done.each);
      left = omega (arith, left, long);
    }

pub gather-requires-clause-of : goal.gather-requires-clause-of
gather-requires-clause-of g c = c.loop-job.invariant.midway.gathers.of

pub gather-requires-clause-other : goal.gather-requires-clause-other
gather-requires-clause-other g c = subst (λ (h : Handle). IsHandleOf c.args.heap.now h) (sym c.into_handle.ensures) (next_there c.args.script.now c.args.heap.now c.args.done.items c.in-Some-job.job (into_iter_items c.next.new.self) (into_iter_items c.loop-job.job-iterator) c.loop-job.all c.in-Some-job.ensures.steps.0 c.loop-job.invariant.midway)

pub loop-job-preserved : goal.loop-job-preserved
loop-job-preserved g c =
    let left = c.loop-job.invariant.left in
    let gone = c.in-Some-job.ensures.steps.1 in
    let long = ap length c.in-Some-job.ensures.steps.0 in
    record {
      midway = midway_more c.args.script.now c.args.heap.now c.args.done.items c.in-Some-job.job (into_iter_items c.next.new.self) (into_iter_items c.loop-job.job-iterator) c.loop-job.all c.gather.new.h c.in-Some-job.ensures.steps.0 c.loop-job.invariant.midway c.gather.ensures.of (subst (λ (h : Handle). Gathered c.loop-job.all h c.gather.new.h) c.into_handle.ensures c.gather.ensures.gathered);
      left = omega (arith, left, gone, long);
    }

pub returns-clause-of : goal.returns-clause-of
returns-clause-of g c = c.loop-job.invariant.midway.gathers.of

pub returns-clause-all : goal.returns-clause-all
returns-clause-all g c =
    let empty = none_left (into_iter_items c.loop-job.job-iterator) (sym c.loop-job.invariant.left ∙ c.in-None.ensures.steps.0) in
    (all_gathered c.args.script.now c.args.heap.now c.args.done.items c.loop-job.all (subst (λ rest. Midway c.args.script.now c.args.heap.now c.args.done.items rest c.loop-job.all) empty c.loop-job.invariant.midway)).all ∙ c.requires.done.many

pub returns-clause-own : goal.returns-clause-own
returns-clause-own g c =
    let empty = none_left (into_iter_items c.loop-job.job-iterator) (sym c.loop-job.invariant.left ∙ c.in-None.ensures.steps.0) in
    (all_gathered c.args.script.now c.args.heap.now c.args.done.items c.loop-job.all (subst (λ rest. Midway c.args.script.now c.args.heap.now c.args.done.items rest c.loop-job.all) empty c.loop-job.invariant.midway)).own
