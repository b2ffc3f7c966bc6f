use Rattle.std.proofs.Common.{◌≡◌, ℕ, ◌+◌, ◌-◌, ◌++◌, ◌<◌, false, List, length, refl, sym, ◌∙◌, ap, subst, arith}
use Rattle.std.proofs.lemmas.List.{append-nil}
use Rattle.gh_replay.proofs.Vocabulary.{actors_of, Answer, answered_in, KnowsThoseGoing, Standing, standing_at, total_of}
use Rattle.gh_replay.proofs.Kept.{is_finished, knows_less, knows_on, Stepped}
use Rattle.gh_replay.proofs.Running.{Midway, more, opens, ran, room_for, roomy}
use Rattle.gh_replay.proofs.turns.run.Goals as goal
use Rattle.gh_replay.proofs.turns.run.Goals.{in-Answered, in-Moved, in-Swept, in-Finished}

pub loop-left-init : goal.loop-left-init
loop-left-init c =
    let first = opens c.args.world.now c.args.schedule c.args.budget (standing_at c.opening-place.result) c.args.answers.now.items c.requires.opens c.opening-place.ensures.stands c.requires.empty in
    let none = first.counted in
    let empty : length c.args.answers.now.items ≡ 0 = ap (λ (xs : List (ℕ × Answer)). length xs) c.requires.empty in
    let start : c.opening-place.result.next ≡ 0 = ap (λ (s : Standing). s.next) c.opening-place.ensures.stands in
    record { script = refl; layout = refl; midway = first; within = c.opening-place.ensures.within; few = omega (arith, none, empty); next = omega (arith, start); kept = c.opening-place.ensures.kept; room = c.requires.room }

pub push_reserved-requires : goal.push_reserved-requires
push_reserved-requires c =
    let few : c.loop-left.left ≡ c.loop-left.left - 1 + 1 = omega (arith, c.loop-left-test.true) in
    let m = more c.loop-left.world c.step.new.self c.step.result c.args.schedule c.args.budget c.loop-left.left (c.loop-left.left - 1) c.in-Some.actor (standing_at c.loop-left.place) (standing_at c.take_turn.new.self) c.loop-left.answers.items c.loop-left.invariant.midway few
    (record { appended = c.step.ensures.appended; script = c.step.ensures.script; layout = c.step.ensures.layout }) c.loop-left.invariant.next c.take_turn.ensures.seats (sym c.in-Some.is ∙ c.take_turn.ensures.who) c.in-Some.ensures.moved in
    let within : length c.loop-left.answers.items < _ = room_for c.step.new.self c.step.result c.args.schedule c.args.budget (c.loop-left.left - 1) _ c.loop-left.answers.items _ _ _ _ _ m c.step.ensures.few c.in-Answered.is (ap total_of c.step.ensures.script) c.loop-left.invariant.room in
    omega (arith, within, c.loop-left.answers.ok.0)

pub loop-left-preserved : goal.loop-left-preserved
loop-left-preserved c =
    let few : c.loop-left.left ≡ c.loop-left.left - 1 + 1 = omega (arith, c.loop-left-test.true) in
    let after : (items : List (ℕ × Answer)) → items ≡ c.loop-left.answers.items ++ answered_in c.step.result → Midway c.step.new.self c.args.schedule c.args.budget (c.loop-left.left - 1) (standing_at c.take_turn.new.self) items = λ items e.
    subst (λ (xs : List (ℕ × Answer)). Midway c.step.new.self c.args.schedule c.args.budget (c.loop-left.left - 1) (standing_at c.take_turn.new.self) xs) (sym e)
    (more c.loop-left.world c.step.new.self c.step.result c.args.schedule c.args.budget c.loop-left.left (c.loop-left.left - 1) c.in-Some.actor (standing_at c.loop-left.place) (standing_at c.take_turn.new.self) c.loop-left.answers.items c.loop-left.invariant.midway few
    (record { appended = c.step.ensures.appended; script = c.step.ensures.script; layout = c.step.ensures.layout }) c.loop-left.invariant.next c.take_turn.ensures.seats (sym c.in-Some.is ∙ c.take_turn.ensures.who) c.in-Some.ensures.moved) in
    let m = c.loop-left.invariant.midway in
    let going = c.in-Some.ensures.going in
    let all : KnowsThoseGoing c.take_turn.new.self c.loop-left.kept.items c.loop-left.world = c.take_turn.ensures.kept in
    let step : Stepped c.loop-left.world c.step.new.self c.in-Some.actor c.step.result m.turns = record { before = m.after; appends = c.step.ensures.appended m.turns m.after; script = c.step.ensures.script; layout = c.step.ensures.layout; count = c.step.ensures.actors; there = going.0; on = going.1 } in
    let same : is_finished c.step.result ≡ false → KnowsThoseGoing c.take_turn.new.self c.loop-left.kept.items c.step.new.self =
    knows_on c.loop-left.world c.step.new.self c.in-Some.actor c.step.result m.turns step c.take_turn.new.self c.loop-left.kept.items all in
    let next : c.take_turn.new.self.next < actors_of c.step.new.self = let there = c.take_turn.ensures.next in let count = c.step.ensures.actors in omega (arith, there, count) in
    elim c.match-step.branch [
      | in-Answered w ↦ record {
        script = c.step.ensures.script ∙ c.loop-left.invariant.script;
        layout = c.step.ensures.layout ∙ c.loop-left.invariant.layout;
        midway = rw w.place-is (after _ (ap (λ v. v.items) w.answers-is ∙ w.push_reserved.ensures.items ∙ ap (λ e. c.loop-left.answers.items ++ answered_in e) (sym w.in-Answered.is)));
        few = c.step.ensures.few;
        within = rw w.place-is c.take_turn.ensures.within;
        next = rw w.place-is next;
        kept = rw (w.kept-is, w.place-is) (same (ap is_finished w.in-Answered.is));
        room = rw (w.answers-is, c.step.ensures.script, w.push_reserved.ensures.capacity) c.loop-left.invariant.room;
      }
      | in-Moved w ↦ record {
        script = c.step.ensures.script ∙ c.loop-left.invariant.script;
        layout = c.step.ensures.layout ∙ c.loop-left.invariant.layout;
        midway = rw w.place-is (after _ (ap (λ v. v.items) w.answers-is ∙ sym (append-nil c.loop-left.answers.items) ∙ ap (λ e. c.loop-left.answers.items ++ answered_in e) (sym w.in-Moved.is)));
        few = c.step.ensures.few;
        within = rw w.place-is c.take_turn.ensures.within;
        next = rw w.place-is next;
        kept = rw (w.kept-is, w.place-is) (same (ap is_finished w.in-Moved.is));
        room = rw (w.answers-is, c.step.ensures.script) c.loop-left.invariant.room;
      }
      | in-Swept w ↦ record {
        script = c.step.ensures.script ∙ c.loop-left.invariant.script;
        layout = c.step.ensures.layout ∙ c.loop-left.invariant.layout;
        midway = rw w.place-is (after _ (ap (λ v. v.items) w.answers-is ∙ sym (append-nil c.loop-left.answers.items) ∙ ap (λ e. c.loop-left.answers.items ++ answered_in e) (sym w.in-Swept.is)));
        few = c.step.ensures.few;
        within = rw w.place-is c.take_turn.ensures.within;
        next = rw w.place-is next;
        kept = rw (w.kept-is, w.place-is) (same (ap is_finished w.in-Swept.is));
        room = rw (w.answers-is, c.step.ensures.script) c.loop-left.invariant.room;
      }
      | in-Finished w ↦ record {
        script = c.step.ensures.script ∙ c.loop-left.invariant.script;
        layout = c.step.ensures.layout ∙ c.loop-left.invariant.layout;
        midway = rw (w.place-is, w.take_out.ensures.place) (after _ (ap (λ v. v.items) w.answers-is ∙ sym (append-nil c.loop-left.answers.items) ∙ ap (λ e. c.loop-left.answers.items ++ answered_in e) (sym w.in-Finished.is)));
        few = c.step.ensures.few;
        within = rw (w.place-is, w.take_out.ensures.place) c.take_turn.ensures.within;
        next = rw (w.place-is, w.take_out.ensures.place) next;
        kept = rw (w.kept-is, w.place-is, w.take_out.ensures.place) (knows_less c.loop-left.world c.step.new.self c.in-Some.actor c.step.result m.turns step c.take_turn.new.self c.loop-left.kept.items all
            _ w.take_out.ensures.kept (ap is_finished w.in-Finished.is));
        room = rw (w.answers-is, c.step.ensures.script) c.loop-left.invariant.room;
      }
    ]

pub returns-in-None-clause-ran : goal.returns-in-None-clause-ran
returns-in-None-clause-ran c = ran c.loop-left.world c.args.schedule c.args.budget c.loop-left.left (standing_at c.loop-left.place) c.loop-left.answers.items c.loop-left.invariant.midway (λ going. absurd (going (c.take_turn.ensures.over c.in-None.is)))

pub returns-clause-ran : goal.returns-clause-ran
returns-clause-ran c = ran c.loop-left.world c.args.schedule c.args.budget c.loop-left.left (standing_at c.loop-left.place) c.loop-left.answers.items c.loop-left.invariant.midway (λ going. omega (arith, c.loop-left-test.false))

pub returns-in-None-clause-few : goal.returns-in-None-clause-few
returns-in-None-clause-few c = roomy c.loop-left.world c.args.schedule c.args.budget c.loop-left.left (standing_at c.loop-left.place) c.loop-left.answers.items c.loop-left.invariant.few c.loop-left.invariant.midway

pub returns-clause-few : goal.returns-clause-few
returns-clause-few c = roomy c.loop-left.world c.args.schedule c.args.budget c.loop-left.left (standing_at c.loop-left.place) c.loop-left.answers.items c.loop-left.invariant.few c.loop-left.invariant.midway
