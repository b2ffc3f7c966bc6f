use Rattle.std.proofs.Common.{◌≡◌, ℕ, ◌++◌, ◌≤◌, length, map, Option, refl, sym, ◌∙◌, ap, subst, arith, IfSome}
use Rattle.gh_replay.proofs.Vocabulary.{actors_of, drawn_of, ended_after, in_order_from, IsEverAfter, IsReplayed, IsUnfinished, Layout, layout_of, LaysOut, Lists, most_cycles, Outcome, outcome_by, Plan, Program, script_of, setting_of, swept_cycle, total_of, vec_capacity}
use Rattle.gh_replay.proofs.Along.{ever_after, have_statements}
use Rattle.gh_replay.proofs.Choosing.{some_going}
use Rattle.gh_replay.proofs.Running.{beside, finished, not_all, outcome_is, unfinished}
use Rattle.gh_replay.proofs.turns.replay.Goals as goal

pub returns-in-Some-clause-out_of_turns : goal.returns-in-Some-clause-out_of_turns
returns-in-Some-clause-out_of_turns c = λ n e.
    let lays : LaysOut c.args.script.now (layout_of c.run.new.world) = subst (λ (l : Layout). LaysOut c.args.script.now l) (sym c.run.ensures.layout) c.in_ok-world.ensures.layout in
    let same : c.args.budget ≡ n = cc in
    let here = c.in-Some.ensures.going in
    let there = here.0 in (
      sym same,
      subst (λ (k : ℕ). IsUnfinished c.args.script.now c.args.schedule k) same
          (unfinished c.run.new.world c.args.script.now c.args.schedule c.args.budget c.run.new.answers.items c.is_well_formed.ensures
          (c.run.ensures.script ∙ c.in_ok-world.ensures.script) lays c.run.ensures.ran (not_all c.run.new.world _ here.0 here.1)
          (record { who = _; there = omega (arith, there, c.in-Some.ensures.seats); going = λ es after. some_going (ended_after (setting_of (script_of c.run.new.world) (layout_of c.run.new.world)) es) (in_order_from 0 (setting_of (script_of c.run.new.world) (layout_of c.run.new.world)).actors) _ (sym (c.in-Some.ensures.in_lists es after)) })),
    )

pub returns-in-Some-clause-ends : goal.returns-in-Some-clause-ends
returns-in-Some-clause-ends c = λ outcome n r e.
    let lays : LaysOut c.args.script.now (layout_of c.run.new.world) = subst (λ (l : Layout). LaysOut c.args.script.now l) (sym c.run.ensures.layout) c.in_ok-world.ensures.layout in
    let here = c.in-Some.ensures.going in
    let there = here.0 in
    c.one_outcome.ensures.not_both c.args.script.now c.args.schedule c.args.budget outcome r
    (unfinished c.run.new.world c.args.script.now c.args.schedule c.args.budget c.run.new.answers.items c.is_well_formed.ensures
    (c.run.ensures.script ∙ c.in_ok-world.ensures.script) lays c.run.ensures.ran (not_all c.run.new.world _ here.0 here.1)
    (record { who = _; there = omega (arith, there, c.in-Some.ensures.seats); going = λ es after. some_going (ended_after (setting_of (script_of c.run.new.world) (layout_of c.run.new.world)) es) (in_order_from 0 (setting_of (script_of c.run.new.world) (layout_of c.run.new.world)).actors) _ (sym (c.in-Some.ensures.in_lists es after)) }))

pub new-requires-in-None-clause-few : goal.new-requires-in-None-clause-few
new-requires-in-None-clause-few c =
    let copied : length c.copy.new.copies.items ≡ length c.cycles.result.now = ap length (c.copy.ensures ∙ ap (λ xs. xs ++ c.cycles.result.now) c.in_ok-cycles.ensures.items) in
    let script : script_of c.run.new.world ≡ c.args.script.now = c.run.ensures.script ∙ c.in_ok-world.ensures.script in
    let answers : length c.run.new.answers.items ≤ total_of c.args.script.now = subst (λ (p : Program). length c.run.new.answers.items ≤ total_of p) script c.run.ensures.few in
    let cycles : length c.cycles.result.now ≤ most_cycles c.args.script.now = subst (λ (p : Program). length c.cycles.result.now ≤ most_cycles p) script c.cycles.ensures.few in
    omega (arith, copied, answers, cycles, c.most_cycles.ensures.is, c.most_cycles.ensures.few, c.is_well_formed.ensures.few_statements)

pub run_beside-ever-requires-clause-statements : goal.run_beside-ever-requires-clause-statements
run_beside-ever-requires-clause-statements c =
    let lays : LaysOut c.args.script.now (layout_of c.run.new.world) = subst (λ (l : Layout). LaysOut c.args.script.now l) (sym c.run.ensures.layout) c.in_ok-world.ensures.layout in
    have_statements c.args.script.now c.args.schedule c.args.budget (outcome_by c.run.new.answers.items (drawn_of c.run.new.world) c.run.new.world.coord) _ c.points.result.now c.run.new.answers.items c.deref.result.now
    (beside c.points_are_statements.ensures c.statements_are_enough.ensures c.every_run_is_explained.ensures c.run.new.world c.args.script.now c.args.schedule c.args.budget c.run.new.answers.items c.is_well_formed.ensures
    (c.run.ensures.script ∙ c.in_ok-world.ensures.script) lays c.run.ensures.ran (c.in-None.ensures.whole refl)) c.points.ensures c.deref.ensures.value

pub returns-clause-ever : goal.returns-clause-ever
returns-clause-ever c =
    let lays : LaysOut c.args.script.now (layout_of c.run.new.world) = subst (λ (l : Layout). LaysOut c.args.script.now l) (sym c.run.ensures.layout) c.in_ok-world.ensures.layout in
    let is : c.new-in-None.result.outcome ≡ outcome_by c.run.new.answers.items (drawn_of c.run.new.world) c.run.new.world.coord = outcome_is c.new-in-None.result.outcome c.run.new.answers.items (drawn_of c.run.new.world) c.run.new.world.coord c.new-in-None.ensures.answers
    (c.new-in-None.ensures.cycles ∙ ap (map swept_cycle) (c.copy.ensures ∙ ap (λ xs. xs ++ c.cycles.result.now) c.in_ok-cycles.ensures.items ∙ c.cycles.ensures.are)) (c.new-in-None.ensures.credit.0 ∙ c.totals.ensures.credit.0, c.new-in-None.ensures.credit.1 ∙ c.totals.ensures.credit.1, c.new-in-None.ensures.credit.2 ∙ c.totals.ensures.credit.2) (c.new-in-None.ensures.live.0 ∙ c.totals.ensures.objects) (c.new-in-None.ensures.live.1 ∙ c.totals.ensures.live) in
    let after = ever_after c.a_script_has_one_run.ensures.ordered c.args.script.now c.args.schedule c.args.budget (outcome_by c.run.new.answers.items (drawn_of c.run.new.world) c.run.new.world.coord) _ c.points.result.now c.run.new.answers.items c.deref.result.now c.run_beside-ever.result
    (beside c.points_are_statements.ensures c.statements_are_enough.ensures c.every_run_is_explained.ensures c.run.new.world c.args.script.now c.args.schedule c.args.budget c.run.new.answers.items c.is_well_formed.ensures
    (c.run.ensures.script ∙ c.in_ok-world.ensures.script) lays c.run.ensures.ran (c.in-None.ensures.whole refl)) c.points.ensures c.deref.ensures.value c.run_beside-ever.ensures.ever in
    subst (λ (ever : Option Lists). IfSome ever (IsEverAfter c.args.script.now c.args.schedule c.args.budget c.new-in-None.result.outcome)) (sym c.new-in-None.ensures.ever)
    (subst (λ (o : Outcome). IfSome c.run_beside-ever.result (IsEverAfter c.args.script.now c.args.schedule c.args.budget o)) (sym is) after)

pub returns-clause-explained : goal.returns-clause-explained
returns-clause-explained c =
    let lays : LaysOut c.args.script.now (layout_of c.run.new.world) = subst (λ (l : Layout). LaysOut c.args.script.now l) (sym c.run.ensures.layout) c.in_ok-world.ensures.layout in
    let is : c.new-in-None.result.outcome ≡ outcome_by c.run.new.answers.items (drawn_of c.run.new.world) c.run.new.world.coord = outcome_is c.new-in-None.result.outcome c.run.new.answers.items (drawn_of c.run.new.world) c.run.new.world.coord c.new-in-None.ensures.answers
    (c.new-in-None.ensures.cycles ∙ ap (map swept_cycle) (c.copy.ensures ∙ ap (λ xs. xs ++ c.cycles.result.now) c.in_ok-cycles.ensures.items ∙ c.cycles.ensures.are)) (c.new-in-None.ensures.credit.0 ∙ c.totals.ensures.credit.0, c.new-in-None.ensures.credit.1 ∙ c.totals.ensures.credit.1, c.new-in-None.ensures.credit.2 ∙ c.totals.ensures.credit.2) (c.new-in-None.ensures.live.0 ∙ c.totals.ensures.objects) (c.new-in-None.ensures.live.1 ∙ c.totals.ensures.live) in
    subst (λ (o : Outcome). IsReplayed c.args.script.now c.args.schedule c.args.budget o) (sym is)
    (finished c.every_run_is_explained.ensures c.run.new.world c.args.script.now c.args.schedule c.args.budget c.run.new.answers.items c.is_well_formed.ensures
    (c.run.ensures.script ∙ c.in_ok-world.ensures.script) lays c.run.ensures.ran (c.in-None.ensures.whole refl))

pub returns-clause-of : goal.returns-clause-of
returns-clause-of c =
    let explained = returns-clause-explained c in
    record {
      goroutines_are = c.new-in-None.ensures.goroutines ∙ c.goroutines-goroutines.ensures;
      layout = explained.layout;
      steps = explained.turns;
      outcome = c.new-in-None.result.outcome;
      explained = explained.explained;
      answers = λ g. refl;
    }

pub returns-clause-runs_out : goal.returns-clause-runs_out
returns-clause-runs_out c = λ u.
    let lays : LaysOut c.args.script.now (layout_of c.run.new.world) = subst (λ (l : Layout). LaysOut c.args.script.now l) (sym c.run.ensures.layout) c.in_ok-world.ensures.layout in
    c.one_outcome.ensures.not_both c.args.script.now c.args.schedule c.args.budget (outcome_by c.run.new.answers.items (drawn_of c.run.new.world) c.run.new.world.coord)
    (finished c.every_run_is_explained.ensures c.run.new.world c.args.script.now c.args.schedule c.args.budget c.run.new.answers.items c.is_well_formed.ensures
    (c.run.ensures.script ∙ c.in_ok-world.ensures.script) lays c.run.ensures.ran (c.in-None.ensures.whole refl)) u

pub run-requires-clause-seats : goal.run-requires-clause-seats
run-requires-clause-seats c = subst (λ (p : Plan). IfSome p.seed (λ s. actors_of c.in_ok-world.world ≤ vec_capacity c.in_ok-kept.kept)) c.schedule.view_is c.in_ok-kept.ensures.room
