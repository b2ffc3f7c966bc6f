use Rattle.std.proofs.Common.{◌≡◌, ◌∙◌, ap, arith, subst, sym}
use Rattle.gh_shared.proofs.Vocabulary.{Acting, CarriesSo, credit_drawn, first_of, leader_of, machine_actor, Planned, seats_of, setting, state_of}
use Rattle.gh_shared.proofs.Carrying.{carried_both, count_few}
use Rattle.gh_shared.proofs.Drawing.{Joined}
use Rattle.gh_shared.proofs.heap.Heap.gather.Goals as goal

pub overflow_add-h : goal.overflow_add-h
overflow_add-h c =
    let h = c.args.h.now in
    let o = c.args.other in
    let procs = h.hand.seat.me.0.plan.layout.limits.procs_fit.1 in
    let workers = h.hand.seat.me.0.plan.layout.limits.workers_fit.1 in
    let one = h.carries.counted in
    let two = o.carries.counted in
    let few = count_few h.hand.seat.me.0.actors (seats_of h.hand.seat.me.0.plan.layout) in
    let less = count_few o.hand.seat.me.0.actors (seats_of o.hand.seat.me.0.plan.layout) in
    let its_procs = o.hand.seat.me.0.plan.layout.limits.procs_fit.1 in
    let its_workers = o.hand.seat.me.0.plan.layout.limits.workers_fit.1 in
    omega (arith, procs, workers, one, two, few, less, its_procs, its_workers)

pub invariant_of-h : goal.invariant_of-h
invariant_of-h c =
    let h = c.args.h.now in
    let o = c.args.other in
    let j = c.join-machine.ensures in
    let new = c.join-machine.new.self in
    let plan = c.requires.other.plan ∙ sym c.requires.of.plan in
    let theirs = subst (λ (q : Planned). CarriesSo q o.hand.seat.me.0.actors o.hand.seat.me.0.log o.hand.actor o.hand.machine.actor o.carried o.drawn o.led) plan o.carries in
    let theirs_is = c.leader_of.ensures ∙ ap (λ (x : Acting). leader_of x.actor o.led) j.machine in
    let its : c.drawn_by.result ≡ credit_drawn o.hand.machine.actor = c.drawn_by.ensures ∙ ap (λ (x : Acting). credit_drawn x.actor) j.machine in
    let state : machine_actor o.hand.machine.actor ≡ state_of (setting h.hand.seat.me.0.plan).kind o.hand.actor o.hand.seat.me.0.log = subst (λ (q : Planned). machine_actor o.hand.machine.actor ≡ state_of (setting q).kind o.hand.actor o.hand.seat.me.0.log) plan o.hand.state in
    let joined : Joined h.hand.seat.me.0 o.hand.seat.me.0 new.seat.me.0 = record { both = j.carries; apart = j.apart; own = j.own; theirs = j.other } in
    let led : c.first_of.result ≡ first_of h.led (leader_of o.hand.machine.actor o.led) = c.first_of.ensures ∙ (λ i. first_of (c.take.ensures.value i) (theirs_is i)) in
    record {
      kept = rw (j.same.0, j.same.1, j.same.3, j.own h.hand.actor h.hand.carries) h.kept;
      carries = rw (j.same.0, j.same.1, j.same.3, led, its) (carried_both c.a_state_is_of_its_own_entries.ensures h.hand.seat.me.0.plan h.hand.seat.me.0 o.hand.seat.me.0 new.seat.me.0 h.hand.actor o.hand.actor h.hand.machine.actor o.hand.machine.actor h.carried o.carried h.drawn o.drawn h.led o.led joined h.hand.carries o.hand.carries state h.carries theirs);
    }
