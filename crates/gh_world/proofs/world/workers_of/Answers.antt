use Rattle.std.proofs.Common.{length, map, ap, sym, ◌∙◌, refl, arith, ◌++◌, ◌∷◌, []}
use Rattle.gh_world.proofs.Vocabulary.{length-map-range_with_len, map-range_with_len_more, opening, range_with_len, Working}
use Rattle.gh_world.proofs.world.workers_of.Goals as goal

pub push_reserved-requires : goal.push_reserved-requires
push_reserved-requires c =
    let long = ap length c.loop-i.invariant.so_far ∙ length-map-range_with_len opening c.args.layout.now.procs c.loop-i.i in
    omega (arith, long, c.loop-i.workers.ok.0, c.loop-i-test.true, c.loop-i.invariant.room)

pub loop-i-preserved : goal.loop-i-preserved
loop-i-preserved c = record {
  first = refl;
  many = refl;
  within = omega (arith, c.loop-i-test.true);
  room = let same = c.push_reserved.ensures.capacity in omega (arith, same, c.loop-i.invariant.room);
  so_far = c.push_reserved.ensures.items ∙ ap (λ ws. ws ++ c.new.result ∷ []) c.loop-i.invariant.so_far ∙ ap (λ (w : Working). map opening (range_with_len c.args.layout.now.procs c.loop-i.i) ++ w ∷ []) c.new.ensures.opening ∙ sym (map-range_with_len_more opening c.args.layout.now.procs c.loop-i.i _ refl);
}
