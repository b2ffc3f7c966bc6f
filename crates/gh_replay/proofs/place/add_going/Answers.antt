use Rattle.std.proofs.Common.{◌≡◌, ℕ, ◌+◌, ◌++◌, ◌<◌, List, [], ◌∷◌, length, sym, ap, ◌∙◌, length-append, arith}
use Rattle.gh_replay.proofs.Vocabulary.{actors_of, seen_of}
use Rattle.gh_replay.proofs.Going.{all_joined, from_first, going_from, joins, joins_not}
use Rattle.gh_replay.proofs.place.add_going.Goals as goal
use Rattle.gh_replay.proofs.place.add_going.Goals.{then-not-is_done, else-not-is_done}

pub loop-a-init : goal.loop-a-init
loop-a-init c =
    let none : length c.args.kept.now.items ≡ 0 = ap (λ (xs : List ℕ). length xs) c.requires.empty in
    record { few = omega (arith, none); kept = ap (λ (xs : List ℕ). xs ++ going_from (seen_of c.args.world.now) 0) c.requires.empty ∙ from_first (seen_of c.args.world.now); room = c.requires.room }

pub loop-a-preserved : goal.loop-a-preserved
loop-a-preserved c =
    let lt : c.loop-a.a < actors_of c.args.world.now = omega (arith, c.loop-a-test.true, c.actors-a-end.ensures.are) in
    elim c.if-not-is_done.branch [
      | then-not-is_done w ↦
          let items : c.if-not-is_done.kept.items ≡ c.loop-a.kept.items ++ c.loop-a.a ∷ [] = ap (λ v. v.items) w.kept-is ∙ w.push_reserved.ensures.items in
          let long : length c.if-not-is_done.kept.items ≡ length c.loop-a.kept.items + 1 = ap (λ (xs : List ℕ). length xs) items ∙ length-append c.loop-a.kept.items (c.loop-a.a ∷ []) in
          record {
            few = omega (arith, long, c.loop-a.invariant.few);
            kept = ap (λ (xs : List ℕ). xs ++ going_from (seen_of c.args.world.now) (c.loop-a.a + 1)) items ∙ joins (seen_of c.args.world.now) c.loop-a.a c.loop-a.kept.items lt c.loop-a.invariant.kept (sym c.is_done.ensures ∙ w.if-not-is_done.true);
            room = rw (w.kept-is, w.push_reserved.ensures.capacity) c.loop-a.invariant.room;
          }
      | else-not-is_done w ↦ record {
        few = rw w.kept-is (omega (arith, c.loop-a.invariant.few));
        kept = rw w.kept-is (joins_not (seen_of c.args.world.now) c.loop-a.a c.loop-a.kept.items lt c.loop-a.invariant.kept (sym c.is_done.ensures ∙ w.if-not-is_done.false));
        room = rw w.kept-is c.loop-a.invariant.room;
      }
    ]

pub returns : goal.returns
returns c = all_joined (seen_of c.args.world.now) c.loop-a.a c.loop-a.kept.items (omega (arith, c.loop-a-test.false, c.actors-a-end.ensures.are)) c.loop-a.invariant.kept
