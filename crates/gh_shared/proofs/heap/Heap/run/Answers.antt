use Rattle.std.proofs.Common.{◌≡◌, ◌∙◌, ℕ, None, refl, subst}
use Rattle.gh_shared.proofs.Vocabulary.{actor_in, by, machine_actor, ran_by, setting}
use Rattle.gh_shared.proofs.Carrying.{went_on}
use Rattle.gh_shared.proofs.Ending.{busy_at, is_done_then, kept_on}
use Rattle.gh_shared.proofs.heap.Heap.run.Goals as goal

pub finish-requires-clause-busy : goal.finish-requires-clause-busy
finish-requires-clause-busy g c =
    let h = c.args.h.now in
    busy_at h.hand.machine.actor (by h.hand.actor h.hand.seat.me.0.log) h.kept.goes_on c.requires.other c.requires.going

pub invariant_of-h : goal.invariant_of-h
invariant_of-h g c =
    let h = c.args.h.now in
    let new = c.finish.new.self in
    let did = c.finish.ensures in
    let ran = ran_by h.hand.seat.me.0.plan.layout h.hand.machine h.hand.belongs.0 h.hand.actor None h.hand.seat.me new.machine new.seat.me did.ran.0 did.ran.1 in
    record {
      kept = rw (did.same.0, did.ran.1.plan) (kept_on h.hand.seat.me.0.plan h.hand.actor h.hand.machine.actor new.machine.actor h.hand.seat.me new.seat.me did.ran.0 h.counts.procs h.counts.left.items h.counts.over.items h.counts.gone c.it_goes_on_until_done.ensures h.kept c.requires.other ran);
      carries = rw (did.same.0, did.ran.1.plan, did.ran.1.actors) (went_on c.a_state_is_of_its_own_entries.ensures h.hand.seat.me.0.plan h.hand.actor h.hand.machine.actor new.machine.actor None h.hand.machine.actor h.hand.seat.me new.seat.me did.ran.0 h.carried h.drawn h.led refl refl ran (subst (λ (a : ℕ). machine_actor new.machine.actor ≡ actor_in setting new.seat.me.0 a) did.same.0 new.state) h.carries);
    }

pub returns : goal.returns
returns g c =
    let h = c.args.h.now in
    let new = c.finish.new.self in
    let did = c.finish.ensures in
    let ran = ran_by h.hand.seat.me.0.plan.layout h.hand.machine h.hand.belongs.0 h.hand.actor None h.hand.seat.me new.machine new.seat.me did.ran.0 did.ran.1 in (
      did.ran.0,
      record {
        of = record { table = did.same.1 ∙ c.requires.of.table; plan = did.ran.1.plan ∙ c.requires.of.plan };
        number = did.same.0;
        ran = ran;
        saw = did.saw;
        ended = is_done_then h.hand.seat.me.0.plan.layout h.hand.machine.actor new.machine.actor did.ran.0 (by new.actor new.seat.me.0.log) c.it_goes_on_until_done.ensures h.kept.goes_on c.requires.other ran.machine did.idle;
      },
    )
