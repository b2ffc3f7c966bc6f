use Rattle.std.proofs.Common.{◌≡◌, ◌∙◌, ℕ, Option, Some, refl, subst, sym}
use Rattle.gh_shared.proofs.Vocabulary.{actor_in, Answer, begins, Gave, gave_so, gives, goes, Layout, layout_of, machine_actor, machine_of, MachineMayBegin, ran_by, setting}
use Rattle.gh_actor.specs.Acting as acting
use Rattle.gh_shared.proofs.Carrying.{begins_kind, went_on}
use Rattle.gh_shared.proofs.Ready.{has_answer, kept_after, ready, shows_then}
use Rattle.gh_shared.proofs.heap.Heap.operate.Goals as goal

pub operate-out-requires-clause-may : goal.operate-out-requires-clause-may
operate-out-requires-clause-may c =
    let h = c.args.h.now in
    let v = h.hand.seat.me.0 in
    let may = c.requires.may in
    subst (λ (l : Layout). MachineMayBegin l h.hand.machine.actor c.args.op) (sym h.hand.belongs.0) (ready v.plan h.hand.actor h.hand.machine.actor v.log h.counts.procs h.counts.left.items h.counts.over.items h.counts.gone c.args.op c.a_state_is_of_its_own_entries.ensures h.kept h.hand.belongs.1 h.hand.state may.going.processor may.going.going may.runs may.fits).may

pub operate-out-requires-clause-allowed : goal.operate-out-requires-clause-allowed
operate-out-requires-clause-allowed c =
    let h = c.args.h.now in
    let v = h.hand.seat.me.0 in
    let may = c.requires.may in
    (ready v.plan h.hand.actor h.hand.machine.actor v.log h.counts.procs h.counts.left.items h.counts.over.items h.counts.gone c.args.op c.a_state_is_of_its_own_entries.ensures h.kept h.hand.belongs.1 h.hand.state may.going.processor may.going.going may.runs may.fits).allowed

pub note-requires : goal.note-requires
note-requires c =
    let h = c.args.h.now in
    let v = h.hand.seat.me.0 in
    let may = c.requires.may in
    (ready v.plan h.hand.actor h.hand.machine.actor v.log h.counts.procs h.counts.left.items h.counts.over.items h.counts.gone c.args.op c.a_state_is_of_its_own_entries.ensures h.kept h.hand.belongs.1 h.hand.state may.going.processor may.going.going may.runs may.fits).counts

pub invariant_of-h : goal.invariant_of-h
invariant_of-h c =
    let h = c.args.h.now in
    let v = h.hand.seat.me.0 in
    let may = c.requires.may in
    let new = c.operate-out.new.self in
    let did = c.operate-out.ensures in
    let counts = c.note.ensures in
    let ran = ran_by v.plan.layout (acting.begins h.hand.machine c.args.op) h.hand.belongs.0 h.hand.actor (Some c.args.op) h.hand.seat.me new.machine new.seat.me did.ran.0 did.ran.1 in
    let gave = gave_so v.plan.layout (acting.begins h.hand.machine c.args.op) h.hand.belongs.0 did.ran.0 c.operate-out.result did.ran.2 in
    let r = ready v.plan h.hand.actor h.hand.machine.actor v.log h.counts.procs h.counts.left.items h.counts.over.items h.counts.gone c.args.op c.a_state_is_of_its_own_entries.ensures h.kept h.hand.belongs.1 h.hand.state may.going.processor may.going.going may.runs may.fits in
    record {
      kept = rw (did.same.0, did.ran.1.plan, counts.left, counts.over, counts.gone, counts.procs) (kept_after v.plan h.hand.actor h.hand.machine.actor c.args.op h.hand.seat.me new.seat.me new.machine.actor did.ran.0 c.operate-out.result h.counts.procs h.counts.left.items h.counts.over.items h.counts.gone h.kept may.going.processor may.going.going r.counts ran gave did.idle);
      carries = rw (did.same.0, did.ran.1.plan, did.ran.1.actors) (went_on c.a_state_is_of_its_own_entries.ensures v.plan h.hand.actor h.hand.machine.actor new.machine.actor (Some c.args.op) (begins h.hand.machine.actor c.args.op) h.hand.seat.me new.seat.me did.ran.0 h.carried h.drawn h.led refl (begins_kind h.hand.machine.actor c.args.op) ran (subst (λ (a : ℕ). machine_actor new.machine.actor ≡ actor_in setting new.seat.me.0 a) did.same.0 new.state) h.carries);
    }

pub unreachable-requires : goal.unreachable-requires
unreachable-requires c = has_answer c.args.h.now.hand.machine.layout c.args.h.now.hand.machine.actor c.args.op c.operate-out.ensures.ran.0 c.operate-out.result c.requires.may.going.processor (gave_so c.args.h.now.hand.machine.layout (acting.begins c.args.h.now.hand.machine c.args.op) refl c.operate-out.ensures.ran.0 c.operate-out.result c.operate-out.ensures.ran.2) c.in-None.is

pub returns : goal.returns
returns c =
    let h = c.args.h.now in
    let may = c.requires.may in
    let did = c.operate-out.ensures in
    let new = c.operate-out.new.self in
    let ran = ran_by (layout_of h) (acting.begins h.hand.machine c.args.op) h.hand.belongs.0 h.hand.actor (Some c.args.op) h.hand.seat.me new.machine new.seat.me did.ran.0 did.ran.1 in
    let gave = subst (λ (out : Option Answer). Gave (goes (layout_of h)) (gives (layout_of h)) (begins (machine_of h) c.args.op) did.ran.0 out) c.in-Some.is (gave_so (layout_of h) (acting.begins h.hand.machine c.args.op) h.hand.belongs.0 did.ran.0 c.operate-out.result did.ran.2) in
    record {
      founds = did.ran.0;
      few = did.ran.3;
      did = record {
        of = record { table = did.same.1 ∙ may.going.of.table; plan = did.ran.1.plan ∙ may.going.of.plan };
        number = did.same.0;
        ran = ran;
        gave = gave;
        saw = did.saw;
        shows = shows_then c.args.op h _ did.ran.0 (Some c.in-Some.answer) may.going.processor may.going.going did.same.0 ran gave;
      };
    }
