-- By one schedule a script's run ends within a budget or does not, and it comes to one outcome.
use Rattle.std.proofs.Common.{◌≡◌, ℕ, ◌<◌, true, false, List, refl, sym, ap, subst, ◌∙◌, arith}
use Rattle.std.proofs.Math.Nat.{ℕ_set}
use Rattle.std.specs.Coded.{le_prop}
use Rattle.gh_replay.proofs.Vocabulary.{Actor, answers_given, Coordinating, ended_after, Entry, EveryOrderHasOneRun, IsExplained, IsReplayed, IsRun, IsRunSoFar, IsScheduled, Layout, LaysOut, Leads, NotBoth, OneOutcome, Op, Outcome, outcome_by, Plan, Program, setting_of, spent_after}
use Rattle.gh_base.specs.Cells.{IsLayoutOf, plan_for}
use Rattle.gh_base.specs.Limits.{InLimits}
use Rattle.gh_base.specs.declared.plan.LayoutPlan.{LayoutPlan}
use Rattle.gh_world.specs.World.{layout_plan}
use Rattle.gh_lists.specs.Order.{ever_of}
use Rattle.gh_replay.proofs.OneRun.{is_so_far, none_is_longer, one_run}

-- a plan lies within its limits in one way
same_limits : (plan : LayoutPlan) (x y : InLimits plan) → x ≡ y
same_limits plan = hlevel (le_prop, ℕ_set)

abbrev layout_with : (plan : LayoutPlan) → InLimits plan → Layout
layout_with plan x = record { opened = plan.opened; pages = plan.pages; globals = plan.globals; procs = plan.procs; workers = plan.workers; goroutines = plan.goroutines; limits = x }

-- a layout is its numbers
layout_is : (l : Layout) (plan : LayoutPlan) → plan_for l ≡ plan → (x : InLimits plan) → l ≡ layout_with plan x
layout_is l plan is = subst (λ (p : LayoutPlan). (x : InLimits p) → l ≡ layout_with p x) is (λ x. ap (layout_with (plan_for l)) (same_limits (plan_for l) l.limits x))

-- and they are those that it was laid out with
numbers_are : (plan : LayoutPlan) (l : Layout) → IsLayoutOf plan l → plan_for l ≡ plan
numbers_are plan l is = rw (is.opened_are, is.pages_are, is.globals_are, is.procs_are, is.workers_are, is.goroutines_are) refl

same_layout : (p : Program) (l k : Layout) → LaysOut p l → LaysOut p k → l ≡ k
same_layout p l k a b = layout_is l (plan_for k) (numbers_are (layout_plan p) l a ∙ sym (numbers_are (layout_plan p) k b)) k.limits

same_lead : (c d : Coordinating) → ◌≡◌ {A = Actor} (Leads c) (Leads d) → c ≡ d
same_lead c d e = cc

module _ (ordered : EveryOrderHasOneRun) where
  -- two whole runs are one
  one_whole : (p : Program) (l : Layout) (plan : Plan) (es fs : List (Entry Op)) → IsRun p l es → IsRun p l fs → IsScheduled p l plan es → IsScheduled p l plan fs → es ≡ fs
  one_whole p l plan es fs r s t u =
      let a = none_is_longer ordered p l plan es fs r (is_so_far p l fs s) t u in
      let b = none_is_longer ordered p l plan fs es s (is_so_far p l es r) u t in
      one_run ordered p l plan es fs (is_so_far p l es r) (is_so_far p l fs s) t u (omega (arith, a, b))

  -- what is explained by one list is one
  one_explained : (p : Program) (l : Layout) (es : List (Entry Op)) (outcome other : Outcome) → IsExplained p l es outcome → IsExplained p l es other → outcome ≡ other
  one_explained p l es outcome other x y =
      let leads : x.coordinator ≡ y.coordinator = same_lead x.coordinator y.coordinator (sym x.led ∙ y.led) in
      x.given ∙ ap (outcome_by (answers_given p l es) (spent_after p l es)) leads ∙ sym y.given

  pub one : OneOutcome
  one p plan m n outcome other r s =
      let layout : s.layout ≡ r.layout = same_layout p s.layout r.layout s.lays_out r.lays_out in
      let e : IsExplained p r.layout s.turns other = subst (λ (l : Layout). IsExplained p l s.turns other) layout s.explained in
      let turn : IsScheduled p r.layout plan s.turns = subst (λ (l : Layout). IsScheduled p l plan s.turns) layout s.scheduled in
      let turns : s.turns ≡ r.turns = one_whole p r.layout plan s.turns r.turns e.run r.explained.run turn r.scheduled in
      one_explained p r.layout r.turns outcome other r.explained (subst (λ (es : List (Entry Op)). IsExplained p r.layout es other) turns e)

  -- and so is the heap that never frees behind them
  pub one_ever : (p : Program) (plan : Plan) (m n : ℕ) (outcome other : Outcome) (r : IsReplayed p plan m outcome) (s : IsReplayed p plan n other) → ever_of p.shapes r.layout r.turns ≡ ever_of p.shapes s.layout s.turns
  one_ever p plan m n outcome other r s =
      let layout : s.layout ≡ r.layout = same_layout p s.layout r.layout s.lays_out r.lays_out in
      let e : IsExplained p r.layout s.turns other = subst (λ (l : Layout). IsExplained p l s.turns other) layout s.explained in
      let turn : IsScheduled p r.layout plan s.turns = subst (λ (l : Layout). IsScheduled p l plan s.turns) layout s.scheduled in
      let turns : s.turns ≡ r.turns = one_whole p r.layout plan s.turns r.turns e.run r.explained.run turn r.scheduled in
      sym (ap (λ (l : Layout). ever_of p.shapes l s.turns) layout ∙ ap (ever_of p.shapes r.layout) turns)

  pub not_both : NotBoth
  not_both p plan budget outcome r u =
      let layout : u.layout ≡ r.layout = same_layout p u.layout r.layout u.lays_out r.lays_out in
      let so_far : IsRunSoFar p r.layout u.turns = subst (λ (l : Layout). IsRunSoFar p l u.turns) layout u.so_far in
      let turn : IsScheduled p r.layout plan u.turns = subst (λ (l : Layout). IsScheduled p l plan u.turns) layout u.scheduled in
      let there : u.who < (setting_of p r.layout).actors = subst (λ (l : Layout). u.who < (setting_of p l).actors) layout u.there in
      let going : ended_after (setting_of p r.layout) u.turns u.who ≡ false = subst (λ (l : Layout). ended_after (setting_of p l) u.turns u.who ≡ false) layout u.going in
      let within = none_is_longer ordered p r.layout plan r.turns u.turns r.explained.run so_far r.scheduled turn in
      let turns : r.turns ≡ u.turns = one_run ordered p r.layout plan r.turns u.turns (is_so_far p r.layout r.turns r.explained.run) so_far r.scheduled turn (omega (arith, within, r.few, u.long)) in
      let over : ended_after (setting_of p r.layout) u.turns u.who ≡ true = subst (λ (es : List (Entry Op)). ended_after (setting_of p r.layout) es u.who ≡ true) turns (r.explained.run.done u.who there) in
      absurd (let e = sym going ∙ over in cc)
