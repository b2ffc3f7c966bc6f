use Rattle.std.proofs.Common.{◌≡◌, ◌∙◌, ◌<◌, ◌-◌, ◌+◌, ◌∷◌, [], ℕ, ap, arith, length, subst, sym}
use Rattle.std.proofs.lemmas.List.{length-append}
use Rattle.gh_shared.proofs.Vocabulary.{Handle, IsFresh, rest_carried}
use Rattle.gh_actor.proofs.EachMore.{each_more}
use Rattle.gh_shared.proofs.heap.Heap.deal.Goals as goal

pub handle_of-requires : goal.handle_of-requires
handle_of-requires c =
    let more : 0 < c.seats-many.result - c.loop-actor.actor = omega (arith, c.loop-actor-test.true) in
    let d = c.split_first-place.ensures.dealt c.args.plan.now c.loop-actor.actor (c.seats-many.result - c.loop-actor.actor) (ap (λ m. m.0) c.loop-actor.invariant.rest) more in
    record {
      key = c.requires.key;
      script = c.requires.script;
      lays = c.requires.lays;
      actor = omega (arith, c.loop-actor-test.true, c.loop-actor.invariant.many);
      table = c.split_first-place.ensures.leaves.0 ∙ c.loop-actor.invariant.table;
      seat = (λ i. (d.0 i, ap (λ m. m.1) c.split_first-place.ensures.leaves.1 i));
    }

pub loop-actor-preserved : goal.loop-actor-preserved
loop-actor-preserved c =
    let items = c.push_reserved.ensures.items in
    let long = ap length items in
    let both = length-append c.loop-actor.handles.items (c.in_ok-handle.handle ∷ []) in
    let same = c.push_reserved.ensures.capacity in
    let more : 0 < c.seats-many.result - c.loop-actor.actor = omega (arith, c.loop-actor-test.true) in
    let less : c.seats-many.result - c.loop-actor.actor - 1 ≡ c.seats-many.result - (c.loop-actor.actor + 1) = omega arith in
    let d = c.split_first-place.ensures.dealt c.args.plan.now c.loop-actor.actor (c.seats-many.result - c.loop-actor.actor) (ap (λ m. m.0) c.loop-actor.invariant.rest) more in
    record {
      many = c.loop-actor.invariant.many;
      within = omega (arith, c.loop-actor-test.true);
      room = omega (arith, same, c.loop-actor.invariant.room);
      so_far = omega (arith, long, both, c.loop-actor.invariant.so_far);
      table = c.split_first-place.ensures.stays.0 ∙ c.loop-actor.invariant.table;
      rest = (λ i. ((d.1 ∙ ap (λ (n : ℕ). rest_carried c.args.plan.now (c.loop-actor.actor + 1) n) less) i, (ap (λ m. m.1) c.split_first-place.ensures.stays.1 ∙ ap (λ m. m.1) c.loop-actor.invariant.rest) i));
      each = rw items (each_more (λ (a : ℕ) (h : Handle). IsFresh c.args.self.now a h) c.loop-actor.handles.items c.in_ok-handle.handle c.loop-actor.invariant.each (subst (λ (a : ℕ). IsFresh c.args.self.now a c.in_ok-handle.handle) (sym c.loop-actor.invariant.so_far) c.in_ok-handle.ensures));
    }
