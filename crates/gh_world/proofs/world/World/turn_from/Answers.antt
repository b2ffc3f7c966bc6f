use Rattle.std.proofs.Common.{◌≡◌, ◌<◌, ℕ, ◌-◌, true, false, sym, ap, subst, ◌∙◌, arith, inl, inr}
use Rattle.gh_world.proofs.Vocabulary.{actors_of, cases_lt, first_going, is_done, range_with_len, State}
use Rattle.gh_world.proofs.OneStep.{Kept}
use Rattle.gh_world.proofs.Whole.{same_turn, turn_low, turn_on, whole}
use Rattle.gh_world.proofs.world.World.turn_from.Goals as goal

pub returns-then-not-is_done-clause-turn : goal.returns-then-not-is_done-clause-turn
returns-then-not-is_done-clause-turn c =
    let low : c.loop-a.a < actors_of c.args.self.now = omega (arith, c.loop-a-test.true, c.actors-a-end.ensures.are) in
    let going : is_done c.args.self.now c.loop-a.a ≡ false = sym c.is_done.ensures ∙ c.if-not-is_done.true in
    sym (c.loop-a.invariant.so_far ∙ turn_on (is_done c.args.self.now) c.loop-a.a (actors_of c.args.self.now) (range_with_len 0 c.args.actor) false low going)

pub returns-then-not-is_done-clause-in_lists : goal.returns-then-not-is_done-clause-in_lists
returns-then-not-is_done-clause-in_lists c es after =
    let kept : Kept c.args.self.now = subst (λ (w : State). Kept w) c.self.view_is (record { noted = _; room = _; fit = c.self.invariant }) in
    let low : c.loop-a.a < actors_of c.args.self.now = omega (arith, c.loop-a-test.true, c.actors-a-end.ensures.are) in
    let going : is_done c.args.self.now c.loop-a.a ≡ false = sym c.is_done.ensures ∙ c.if-not-is_done.true in
    sym (c.loop-a.invariant.so_far ∙ turn_on (is_done c.args.self.now) c.loop-a.a (actors_of c.args.self.now) (range_with_len 0 c.args.actor) false low going) ∙ same_turn c.args.self.now kept es after c.args.actor c.requires

pub loop-a-preserved : goal.loop-a-preserved
loop-a-preserved c =
    let low : c.loop-a.a < actors_of c.args.self.now = omega (arith, c.loop-a-test.true, c.actors-a-end.ensures.are) in
    let over : is_done c.args.self.now c.loop-a.a ≡ true = sym c.is_done.ensures ∙ c.if-not-is_done.false in
    record {
      from = omega (arith, c.loop-a.invariant.from);
      within = omega (arith, low);
      so_far = c.loop-a.invariant.so_far ∙ turn_on (is_done c.args.self.now) c.loop-a.a (actors_of c.args.self.now) (range_with_len 0 c.args.actor) true low over;
      done = λ a high lt. elim (cases_lt a c.loop-a.a) [
        | inl below ↦ c.loop-a.invariant.done a high below
        | inr le ↦ let same : a ≡ c.loop-a.a = omega (arith, le, lt) in ap (is_done c.args.self.now) same ∙ over
      ];
    }

pub returns-then-not-is_done-2-clause-turn : goal.returns-then-not-is_done-2-clause-turn
returns-then-not-is_done-2-clause-turn c =
    let low : c.loop-a-2.a < c.args.actor = omega (arith, c.loop-a-2-test.true) in
    let going : is_done c.args.self.now c.loop-a-2.a ≡ false = sym c.is_done-in-loop-a-2.ensures ∙ c.if-not-is_done-2.true in
    sym (c.loop-a-2.invariant.so_far ∙ turn_low (is_done c.args.self.now) c.loop-a-2.a c.args.actor false low going)

pub returns-then-not-is_done-2-clause-in_lists : goal.returns-then-not-is_done-2-clause-in_lists
returns-then-not-is_done-2-clause-in_lists c es after =
    let kept : Kept c.args.self.now = subst (λ (w : State). Kept w) c.self.view_is (record { noted = _; room = _; fit = c.self.invariant }) in
    let low : c.loop-a-2.a < c.args.actor = omega (arith, c.loop-a-2-test.true) in
    let going : is_done c.args.self.now c.loop-a-2.a ≡ false = sym c.is_done-in-loop-a-2.ensures ∙ c.if-not-is_done-2.true in
    sym (c.loop-a-2.invariant.so_far ∙ turn_low (is_done c.args.self.now) c.loop-a-2.a c.args.actor false low going) ∙ same_turn c.args.self.now kept es after c.args.actor c.requires

pub loop-a-2-preserved : goal.loop-a-2-preserved
loop-a-2-preserved c =
    let low : c.loop-a-2.a < c.args.actor = omega (arith, c.loop-a-2-test.true) in
    let over : is_done c.args.self.now c.loop-a-2.a ≡ true = sym c.is_done-in-loop-a-2.ensures ∙ c.if-not-is_done-2.false in
    record {
      within = omega (arith, low);
      so_far = c.loop-a-2.invariant.so_far ∙ turn_low (is_done c.args.self.now) c.loop-a-2.a c.args.actor true low over;
      done = c.loop-a-2.invariant.done;
      low = λ a lt. elim (cases_lt a c.loop-a-2.a) [
        | inl below ↦ c.loop-a-2.invariant.low a below
        | inr le ↦ let same : a ≡ c.loop-a-2.a = omega (arith, le, lt) in ap (is_done c.args.self.now) same ∙ over
      ];
    }

pub returns-clause-in_lists : goal.returns-clause-in_lists
returns-clause-in_lists c es after =
    let kept : Kept c.args.self.now = subst (λ (w : State). Kept w) c.self.view_is (record { noted = _; room = _; fit = c.self.invariant }) in
    let none : c.args.actor - c.loop-a-2.a ≡ 0 = omega (arith, c.loop-a-2-test.false) in
    sym (c.loop-a-2.invariant.so_far ∙ ap (λ (k : ℕ). first_going (is_done c.args.self.now) (range_with_len c.loop-a-2.a k)) none) ∙ same_turn c.args.self.now kept es after c.args.actor c.requires

pub returns-clause-whole : goal.returns-clause-whole
returns-clause-whole c = λ e es after.
    let kept : Kept c.args.self.now = subst (λ (w : State). Kept w) c.self.view_is (record { noted = _; room = _; fit = c.self.invariant }) in
    whole c.args.self.now kept es after (λ a lt. elim (cases_lt a c.args.actor) [
      | inl below ↦ c.loop-a-2.invariant.low a (omega (arith, below, c.loop-a-2-test.false))
      | inr le ↦ c.loop-a-2.invariant.done a le lt
    ])
