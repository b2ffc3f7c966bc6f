use Rattle.std.proofs.Common.{[], ap, arith, length, refl}
use Rattle.std.proofs.lemmas.List.Elements.{All-push, All-rest, All-same}
use Rattle.std.specs.Vec.Iter.{into_iter_items}
use Rattle.gh_shared.proofs.Runners.{all_of, first_of, pushed_length}
use Rattle.gh_shared.proofs.Vocabulary.{All-nil}
use Rattle.gh_shared.specs.Handles.{IsHandleOf}
use Rattle.gh_shared.specs.Runners.{IsRunnerOf}
use Rattle.gh_shared.proofs.running.runners_of.Goals as goal

pub loop-handle-init : goal.loop-handle-init
loop-handle-init g c =
    let heap = c.args.heap.now in let gives = c.into_iter-handle-iterator.ensures.into_iter_gives in
    let long = ap length gives.0 in let many = c.requires.handles.many in
    let none = c.new-runners.ensures.items in let short = ap length none in
    record {
      rest = All-same (IsHandleOf heap) (into_iter_items c.into_iter-handle-iterator.result) c.args.handles.items gives.0 (all_of (IsHandleOf heap) c.args.handles.items (λ i h at. (c.requires.handles.each i h at).of));
      done = All-same (IsRunnerOf heap) c.new-runners.result.items [] none (All-nil (IsRunnerOf heap));
      many = omega (arith, long, many, short);
    }

pub loop-handle-preserved : goal.loop-handle-preserved
loop-handle-preserved g c =
    let heap = c.args.heap.now in let was = c.loop-handle.invariant in let is = c.in-Some.ensures.steps.0 in
    let rest = into_iter_items c.next.new.self in let all = into_iter_items c.loop-handle.handle-iterator in let h = c.in-Some.handle in
    let of = first_of (IsHandleOf heap) h rest all is was.rest in
    let items = c.in_ok-push.ensures.items in
    let long = ap length is in let longer = pushed_length _ c.loop-handle.runners.items c.push.new.self.items items in let many = was.many in
    record {
      rest = All-rest (IsHandleOf heap) h rest all is was.rest;
      done = All-same (IsRunnerOf heap) c.push.new.self.items _ items (All-push (IsRunnerOf heap) c.loop-handle.runners.items _ was.done (record { same = refl; of = of; script = c.requires.script }));
      many = omega (arith, long, longer, many);
    }

pub returns-clause-of : goal.returns-clause-of
returns-clause-of g c = c.loop-handle.invariant.done

pub returns-clause-many : goal.returns-clause-many
returns-clause-many g c = let many = c.loop-handle.invariant.many in omega (arith, many)
