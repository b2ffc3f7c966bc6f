use Rattle.std.proofs.Common.{ℕ, length, ap, sym, subst, refl, arith, ◌∷◌, []}
use Rattle.std.proofs.lemmas.List.{length-append}
use Rattle.gh_world.proofs.Vocabulary.{IsOpening, Runner, SoundMutating}
use Rattle.gh_world.proofs.Runners.{each_more}
use Rattle.gh_world.proofs.world.runners_of.Goals as goal

pub loop-seat-preserved : goal.loop-seat-preserved
loop-seat-preserved c =
    let items = c.push_reserved.ensures.items in
    let long = ap length c.push_reserved.ensures.items in
    let both = length-append c.loop-seat.runners.items (c.opening.result ∷ []) in
    let same = c.push_reserved.ensures.capacity in
    let here : IsOpening c.args.script.now (length c.loop-seat.runners.items) c.opening.result = subst (λ (i : ℕ). IsOpening c.args.script.now i c.opening.result) (sym c.loop-seat.invariant.so_far) c.opening.ensures.opens in
    record {
      many = refl;
      within = omega (arith, c.loop-seat-test.true);
      room = omega (arith, same, c.loop-seat.invariant.room);
      so_far = omega (arith, long, both, c.loop-seat.invariant.so_far);
      each = rw items (each_more (λ (a : ℕ) (x : Runner). IsOpening c.args.script.now a x) c.loop-seat.runners.items c.opening.result c.loop-seat.invariant.each here);
      sound = rw items (each_more (λ (a : ℕ) (x : Runner). SoundMutating c.args.layout.now x.mutator.shapes x.mutator.processor) c.loop-seat.runners.items c.opening.result c.loop-seat.invariant.sound (c.opening.ensures.sound c.args.layout.now (omega (arith, c.loop-seat-test.true, c.loop-seat.invariant.many))));
    }
