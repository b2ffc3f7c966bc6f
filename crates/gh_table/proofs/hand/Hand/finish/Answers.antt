use Rattle.std.proofs.Common.{ap, sym, ◌∙◌, subst, ℕ, ◌∷◌, [], None, refl, IsNone}
use Rattle.gh_table.proofs.Vocabulary.{Listing, Ran}
use Rattle.gh_table.proofs.Running.{saw_before, saw_since, busy_now, ended_now, goes_more, left_none, none_of, ran_more}
use Rattle.gh_table.proofs.hand.Hand.finish.Goals as goal

pub go_on-requires-clause-busy : goal.go_on-requires-clause-busy
go_on-requires-clause-busy g c =
    let inv = c.loop.invariant in
    ap g.M.Machine.busy inv.3.1.machine ∙ busy_now (record { layout = g.M.Machine.layout; busy = g.M.Machine.busy; asks = g.M.Machine.asks; goes = g.M.Machine.goes; gives = g.M.Machine.gives }) c.args.self.now.machine inv.3.0 inv.3.2

pub loop-init : goal.loop-init
loop-init g c = (refl, refl, (λ es began. began), ([], record { log = refl; plan = refl; actors = refl; machine = refl }, c.requires.busy))

pub loop-preserved : goal.loop-preserved
loop-preserved g c =
    let inv = c.loop.invariant in
    let was = c.loop.self in
    let fn = c.args.self.now in
    let now = c.go_on.new.self in
    let n = c.go_on.ensures.step.0 in
    let step = subst (λ (a : ℕ). Ran g.M.Machine.asks g.M.Machine.goes a None was.machine was.seat.me now.machine now.seat.me (n ∷ [])) inv.0 c.go_on.ensures.step.1 in (
      c.go_on.ensures.same.0 ∙ inv.0,
      c.go_on.ensures.same.1 ∙ inv.1,
      (λ es began. inv.2 es (saw_before g.K.Plan.setting now.actor was.seat.me now.seat.me c.go_on.ensures.saw es began)),
      (
        n ∷ inv.3.0,
        ran_more g.M.Machine.asks g.M.Machine.goes fn.actor None n inv.3.0 fn.machine (left_none inv.3.0) inv.3.1 step,
        goes_more (record { layout = g.M.Machine.layout; busy = g.M.Machine.busy; asks = g.M.Machine.asks; goes = g.M.Machine.goes; gives = g.M.Machine.gives }) fn.machine was.machine n inv.3.0 g.met.M.Machine.ends inv.3.1.machine inv.3.2
            (subst IsNone c.go_on.ensures.step.2 (none_of c.go_on.result c.in_default.not-Some)),
      ),
    )

pub returns-in-Some-go_on-clause-ran : goal.returns-in-Some-go_on-clause-ran
returns-in-Some-go_on-clause-ran g c =
    let inv = c.loop.invariant in
    let was = c.loop.self in
    let fn = c.args.self.now in
    let now = c.go_on.new.self in
    let n = c.go_on.ensures.step.0 in
    let step = subst (λ (a : ℕ). Ran g.M.Machine.asks g.M.Machine.goes a None was.machine was.seat.me now.machine now.seat.me (n ∷ [])) inv.0 c.go_on.ensures.step.1 in (
      n ∷ inv.3.0,
      ran_more g.M.Machine.asks g.M.Machine.goes fn.actor None n inv.3.0 fn.machine (left_none inv.3.0) inv.3.1 step,
      ap (λ x. g.M.Machine.gives x n) (sym inv.3.1.machine) ∙ (sym c.go_on.ensures.step.2 ∙ c.in-Some-go_on.is),
    )

pub returns-in-Some-go_on-clause-idle : goal.returns-in-Some-go_on-clause-idle
returns-in-Some-go_on-clause-idle g c =
    let inv = c.loop.invariant in
    let was = c.loop.self in
    let r : Listing g.row.M.Denot g.row.M-Out.Denot = record { layout = g.M.Machine.layout; busy = g.M.Machine.busy; asks = g.M.Machine.asks; goes = g.M.Machine.goes; gives = g.M.Machine.gives } in
    let busy = ap g.M.Machine.busy inv.3.1.machine ∙ busy_now r c.args.self.now.machine inv.3.0 inv.3.2 in
    ap g.M.Machine.busy c.go_on.ensures.step.1.machine ∙ ended_now r was.machine c.go_on.ensures.step.0 c.in-Some-go_on.out g.met.M.Machine.ends busy (sym c.go_on.ensures.step.2 ∙ c.in-Some-go_on.is)

pub returns-in-Some-go_on-clause-saw : goal.returns-in-Some-go_on-clause-saw
returns-in-Some-go_on-clause-saw g c =
    let now = c.go_on.new.self in
    saw_since g.K.Plan.setting now.actor c.args.self.now.seat.me c.loop.self.seat.me now.seat.me c.loop.invariant.2 c.go_on.ensures.saw
