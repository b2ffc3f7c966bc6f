use Rattle.std.proofs.Common.{◌≡◌, ◌+◌, ◌-◌, ◌≤◌, ap, subst, length, arith}
use Rattle.gh_world.proofs.Vocabulary.{Layout, processor_kind, State, StepsAreShown}
use Rattle.gh_world.proofs.OneStep.{appends, appends_lead, appends_work, busy_lead, busy_worker, few_lead, few_work, Kept}
use Rattle.gh_world.proofs.world.World.step.Goals as goal

pub returns-then-a-procs-clause-appended : goal.returns-then-a-procs-clause-appended
returns-then-a-procs-clause-appended c es after =
    let kept : Kept c.args.self.now = subst (λ (w : State). Kept w) c.self.view_is (record { noted = _; room = _; fit = c.self.invariant }) in
    let shown : StepsAreShown c.args.self.now.layout = subst (λ (l : Layout). StepsAreShown l) (ap (λ (w : State). w.layout) c.self.view_is) c.steps_are_shown.ensures in
    appends c.polls_make_room.ensures c.args.self.now c.run.new.self c.args.actor es _ (λ fs. c.a_state_is_of_its_own_entries.ensures (processor_kind c.args.self.now.script.shapes c.args.self.now.layout) c.args.actor fs) shown kept c.requires.going c.run.ensures.steps after

pub work-requires-clause-busy : goal.work-requires-clause-busy
work-requires-clause-busy c x is =
    let procs = ap (λ (w : State). length w.runners) c.self.view_is in
    let at : c.args.actor ≡ length c.args.self.now.runners + (c.from-a.result - c.len-procs.result) = omega (arith, procs, c.if-a-procs.false, c.from-a.ensures, c.len-procs.ensures, c.self.inside.runners.ok.0) in
    busy_worker c.args.self.now c.args.actor (c.from-a.result - c.len-procs.result) x at is c.requires.going

pub lead-requires : goal.lead-requires
lead-requires c =
    let kept : Kept c.args.self.now = subst (λ (w : State). Kept w) c.self.view_is (record { noted = _; room = _; fit = c.self.invariant }) in
    let procs = ap (λ (w : State). length w.runners) c.self.view_is in
    let many = ap (λ (w : State). length w.workers) c.self.view_is in
    let high : length c.args.self.now.runners + length c.args.self.now.workers ≤ c.args.actor = omega (arith, procs, many, c.if-a-procs.false, c.if-a-procs-2.false, c.from-a.ensures, c.len-procs.ensures, c.len.ensures, c.self.inside.runners.ok.0, c.self.inside.workers.ok.0) in
    busy_lead c.args.self.now c.args.actor kept high c.requires.going

pub returns-then-a-procs-2-clause-appended : goal.returns-then-a-procs-2-clause-appended
returns-then-a-procs-2-clause-appended c es after =
    let kept : Kept c.args.self.now = subst (λ (w : State). Kept w) c.self.view_is (record { noted = _; room = _; fit = c.self.invariant }) in
    let shown : StepsAreShown c.args.self.now.layout = subst (λ (l : Layout). StepsAreShown l) (ap (λ (w : State). w.layout) c.self.view_is) c.steps_are_shown.ensures in
    let procs = ap (λ (w : State). length w.runners) c.self.view_is in
    let at : c.args.actor ≡ length c.args.self.now.runners + (c.from-a.result - c.len-procs.result) = omega (arith, procs, c.if-a-procs.false, c.from-a.ensures, c.len-procs.ensures, c.self.inside.runners.ok.0) in
    appends_work c.args.self.now _ c.args.actor (c.from-a.result - c.len-procs.result) es _ shown kept at c.requires.going c.work.ensures after

pub returns-then-a-procs-2-clause-few : goal.returns-then-a-procs-2-clause-few
returns-then-a-procs-2-clause-few c =
    let kept : Kept c.args.self.now = subst (λ (w : State). Kept w) c.self.view_is (record { noted = _; room = _; fit = c.self.invariant }) in
    few_work c.args.self.now c.work.new.self (c.from-a.result - c.len-procs.result) _ kept c.work.ensures

pub returns-else-a-procs-2-clause-appended : goal.returns-else-a-procs-2-clause-appended
returns-else-a-procs-2-clause-appended c es after =
    let kept : Kept c.args.self.now = subst (λ (w : State). Kept w) c.self.view_is (record { noted = _; room = _; fit = c.self.invariant }) in
    let shown : StepsAreShown c.args.self.now.layout = subst (λ (l : Layout). StepsAreShown l) (ap (λ (w : State). w.layout) c.self.view_is) c.steps_are_shown.ensures in
    let procs = ap (λ (w : State). length w.runners) c.self.view_is in
    let many = ap (λ (w : State). length w.workers) c.self.view_is in
    let at : c.args.actor ≡ length c.args.self.now.runners + length c.args.self.now.workers = omega (arith, procs, many, c.requires.actor, c.if-a-procs.false, c.if-a-procs-2.false, c.from-a.ensures, c.len-procs.ensures, c.len.ensures, c.self.inside.runners.ok.0, c.self.inside.workers.ok.0) in
    appends_lead c.args.self.now _ c.args.actor es _ shown kept at c.requires.going c.lead.ensures after

pub returns-else-a-procs-2-clause-few : goal.returns-else-a-procs-2-clause-few
returns-else-a-procs-2-clause-few c =
    let kept : Kept c.args.self.now = subst (λ (w : State). Kept w) c.self.view_is (record { noted = _; room = _; fit = c.self.invariant }) in
    few_lead c.args.self.now c.lead.new.self _ kept c.lead.ensures
