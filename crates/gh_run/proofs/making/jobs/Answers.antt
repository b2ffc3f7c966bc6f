use Rattle.std.proofs.Common.{◌≡◌, ◌∙◌, ◌+◌, ◌∷◌, [], ℕ, suc, ap, arith, length, subst, sym}
use Rattle.std.proofs.lemmas.List.{length-append}
use Rattle.gh_run.proofs.Vocabulary.{EachFrom, into_iter_items, IsFresh, IsJobOf}
use Rattle.gh_run.proofs.Places.{each_of, each_push, each_rest, none_left}
use Rattle.gh_run.proofs.making.jobs.Goals as goal

pub loop-handle-init : goal.loop-handle-init
loop-handle-init g c =
    let heap = c.args.heap.now in
    let gives = c.into_iter-handle-iterator.ensures.into_iter_gives in
    let long = ap length gives.0 in
    let many = c.requires.fresh.many in
    let none = c.new-jobs.ensures.items in
    let short = ap length none in
    let left = gives.1 in
    record {
      many = omega (arith, long, many, short);
      left = omega (arith, left, long);
      fresh = subst (λ (n : ℕ). EachFrom (IsFresh heap) n (into_iter_items c.into_iter-handle-iterator.result)) (sym short) (subst (EachFrom (IsFresh heap) 0) (sym gives.0) (each_of (IsFresh heap) 0 c.args.handles.items (λ i x at. let place : i ≡ 0 + i = omega arith in subst (λ (n : ℕ). IsFresh heap n x) place (c.requires.fresh.each i x at))));
      each = subst (EachFrom (IsJobOf c.args.script.now heap) 0) (sym none) tt;
    }

pub job_of-requires-clause-fresh : goal.job_of-requires-clause-fresh
job_of-requires-clause-fresh g c κs within =
    let heap = c.args.heap.now in
    let first = each_rest (IsFresh heap) (length c.loop-handle.jobs.items) c.in-Some.handle (into_iter_items c.next.new.self) (into_iter_items c.loop-handle.handle-iterator) c.in-Some.ensures.steps.0 c.loop-handle.invariant.fresh in
    subst (λ (n : ℕ). IsFresh heap n c.in-Some.handle) (sym first.0.number) first.0

pub loop-handle-preserved : goal.loop-handle-preserved
loop-handle-preserved g c =
    let heap = c.args.heap.now in
    let was = c.loop-handle.invariant in
    let is = c.in-Some.ensures.steps.0 in
    let rest = into_iter_items c.next.new.self in
    let jobs = c.loop-handle.jobs.items in
    let first = each_rest (IsFresh heap) (length jobs) c.in-Some.handle rest (into_iter_items c.loop-handle.handle-iterator) is was.fresh in
    let items = c.in_ok-push.ensures.items in
    let long = ap length is in
    let longer = ap length items in
    let both = length-append jobs (c.in_ok-job.job ∷ []) in
    let many = was.many in
    let here : length jobs ≡ 0 + length jobs = omega arith in
    let next : suc (length jobs) ≡ length c.push.new.self.items = omega (arith, longer, both) in
    let left = was.left in
    let gone = c.in-Some.ensures.steps.1 in
    record {
      many = omega (arith, long, longer, both, many);
      left = omega (arith, left, gone, long);
      fresh = subst (λ (n : ℕ). EachFrom (IsFresh heap) n rest) next first.1;
      each = subst (EachFrom (IsJobOf c.args.script.now heap) 0) (sym items) (each_push (IsJobOf c.args.script.now heap) 0 jobs c.in_ok-job.job was.each (subst (λ (n : ℕ). IsJobOf c.args.script.now heap n c.in_ok-job.job) (first.0.number ∙ here) c.in_ok-job.ensures));
    }

pub returns : goal.returns
returns g c =
    let was = c.loop-handle.invariant in
    let empty = none_left (into_iter_items c.loop-handle.handle-iterator) (sym was.left ∙ c.in-None.ensures.steps.0) in
    let long = ap length empty in
    let many = was.many in
    record { many = omega (arith, many, long); each = was.each }
