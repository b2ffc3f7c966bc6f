use Rattle.std.proofs.Common.{ap, arith, length}
use Rattle.std.proofs.lemmas.List.Elements.{All-rest, All-same}
use Rattle.std.specs.Vec.Iter.{into_iter_items}
use Rattle.gh_shared.proofs.Runners.{first_of, pushed_length}
use Rattle.gh_shared.specs.Handles.{IsHandleOf}
use Rattle.gh_shared.proofs.running.gathered.Goals as goal

pub loop-runner-init : goal.loop-runner-init
loop-runner-init g c =
    let gives = c.into_iter-runner-iterator.ensures.into_iter_gives in let long = ap length gives.0 in let room = c.requires.room in
    record {
      rest = All-same (λ j. IsHandleOf c.args.heap.now j.handle) (into_iter_items c.into_iter-runner-iterator.result) c.args.done.items gives.0 c.requires.of;
      last = tt;
      room = omega (arith, long, room);
    }

pub push_reserved-requires : goal.push_reserved-requires
push_reserved-requires g c =
    let long = ap length c.in-Some.ensures.steps.0 in let room = c.loop-runner.invariant.room in omega (arith, long, room)

pub joined-requires-clause-handle : goal.joined-requires-clause-handle
joined-requires-clause-handle g c = first_of (λ j. IsHandleOf c.args.heap.now j.handle) c.in-Some.runner (into_iter_items c.next.new.self) (into_iter_items c.loop-runner.runner-iterator) c.in-Some.ensures.steps.0 c.loop-runner.invariant.rest

pub loop-runner-preserved : goal.loop-runner-preserved
loop-runner-preserved g c =
    let is = c.in-Some.ensures.steps.0 in let items = c.push_reserved.ensures.items in
    let long = ap length is in let longer = pushed_length _ c.loop-runner.plays.items c.push_reserved.new.self.items items in
    let room = c.loop-runner.invariant.room in let same = c.push_reserved.ensures.capacity in
    record {
      rest = All-rest (λ j. IsHandleOf c.args.heap.now j.handle) c.in-Some.runner (into_iter_items c.next.new.self) (into_iter_items c.loop-runner.runner-iterator) is c.loop-runner.invariant.rest;
      last = c.joined.ensures;
      room = omega (arith, long, longer, room, same);
    }
