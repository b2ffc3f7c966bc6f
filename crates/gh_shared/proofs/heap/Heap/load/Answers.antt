use Rattle.std.proofs.Common.{◌≡◌, ◌∙◌, ℕ, List, Some, ap, refl, subst, sym, true}
use Rattle.gh_shared.proofs.Vocabulary.{begins, has, Layout, MachineMayBegin, Op, Planned, RanAtOnce}
use Rattle.gh_shared.proofs.Carrying.{begins_kind, went_on}
use Rattle.gh_shared.proofs.Faults.{fault_leaves_all}
use Rattle.gh_shared.proofs.Ready.{kept_after, ready, shows_then}
use Rattle.gh_shared.proofs.Answering.{load_served}
use Rattle.gh_shared.proofs.heap.Heap.load.Goals as goal

pub load_at_once-requires-clause-laid : goal.load_at_once-requires-clause-laid
load_at_once-requires-clause-laid c = c.args.h.now.hand.belongs.0

pub load_at_once-requires-clause-shapes : goal.load_at_once-requires-clause-shapes
load_at_once-requires-clause-shapes c = c.args.h.now.hand.belongs.1

pub load_at_once-requires-clause-may : goal.load_at_once-requires-clause-may
load_at_once-requires-clause-may c =
    let h = c.args.h.now in
    subst (λ (l : Layout). MachineMayBegin l h.hand.machine.actor (Op.Load c.args.g c.args.d c.args.b c.args.k)) (sym h.hand.belongs.0) (ready h.hand.seat.me.0.plan h.hand.actor h.hand.machine.actor h.hand.seat.me.0.log h.counts.procs h.counts.left.items h.counts.over.items h.counts.gone (Op.Load c.args.g c.args.d c.args.b c.args.k) c.a_state_is_of_its_own_entries.ensures h.kept h.hand.belongs.1 h.hand.state c.requires.going.processor c.requires.going.going c.requires.runs c.requires.registers).may

pub load_at_once-requires-clause-allowed : goal.load_at_once-requires-clause-allowed
load_at_once-requires-clause-allowed c =
    let h = c.args.h.now in
    (ready h.hand.seat.me.0.plan h.hand.actor h.hand.machine.actor h.hand.seat.me.0.log h.counts.procs h.counts.left.items h.counts.over.items h.counts.gone (Op.Load c.args.g c.args.d c.args.b c.args.k) c.a_state_is_of_its_own_entries.ensures h.kept h.hand.belongs.1 h.hand.state c.requires.going.processor c.requires.going.going c.requires.runs c.requires.registers).allowed

pub invariant_of-hand : goal.invariant_of-hand
invariant_of-hand c =
    let h = c.args.h.now in
    let new = c.load_at_once.new in
    let did : RanAtOnce h.hand.seat.me.0.plan.layout h.hand.actor (Op.Load c.args.g c.args.d c.args.b c.args.k) 4 h.hand.machine.actor h.hand.seat.me new.machine.actor new.seat.me c.load_at_once.result =
    subst (λ (l : Layout). RanAtOnce l h.hand.actor (Op.Load c.args.g c.args.d c.args.b c.args.k) 4 h.hand.machine.actor h.hand.seat.me new.machine.actor new.seat.me c.load_at_once.result) h.hand.belongs.0 c.load_at_once.ensures.ran in
    record {
      carries = subst (λ (xs : List ℕ). has xs h.hand.actor ≡ true) (sym did.ran.actors) h.hand.carries;
      belongs = (c.load_at_once.ensures.laid ∙ (h.hand.belongs.0 ∙ sym (ap (λ (p : Planned). p.layout) did.ran.plan)), did.shapes);
      state = did.state;
      slotless = did.slots ∙ h.hand.slotless;
    }

pub invariant_of-h : goal.invariant_of-h
invariant_of-h c =
    let h = c.args.h.now in
    let new = c.load_at_once.new in
    let did : RanAtOnce h.hand.seat.me.0.plan.layout h.hand.actor (Op.Load c.args.g c.args.d c.args.b c.args.k) 4 h.hand.machine.actor h.hand.seat.me new.machine.actor new.seat.me c.load_at_once.result =
    subst (λ (l : Layout). RanAtOnce l h.hand.actor (Op.Load c.args.g c.args.d c.args.b c.args.k) 4 h.hand.machine.actor h.hand.seat.me new.machine.actor new.seat.me c.load_at_once.result) h.hand.belongs.0 c.load_at_once.ensures.ran in
    record {
      kept = rw did.ran.plan (kept_after h.hand.seat.me.0.plan h.hand.actor h.hand.machine.actor (Op.Load c.args.g c.args.d c.args.b c.args.k) h.hand.seat.me new.seat.me new.machine.actor did.founds (Some c.load_at_once.result) h.counts.procs h.counts.left.items h.counts.over.items h.counts.gone h.kept c.requires.going.processor c.requires.going.going tt did.ran did.gave did.idle);
      carries = rw (did.ran.plan, did.ran.actors) (went_on c.a_state_is_of_its_own_entries.ensures h.hand.seat.me.0.plan h.hand.actor h.hand.machine.actor new.machine.actor (Some (Op.Load c.args.g c.args.d c.args.b c.args.k)) (begins h.hand.machine.actor (Op.Load c.args.g c.args.d c.args.b c.args.k)) h.hand.seat.me new.seat.me did.founds h.carried h.drawn h.led refl (begins_kind h.hand.machine.actor (Op.Load c.args.g c.args.d c.args.b c.args.k)) did.ran did.state h.carries);
    }

pub returns-clause-did : goal.returns-clause-did
returns-clause-did c =
    let h = c.args.h.now in
    let new = c.load_at_once.new in
    let did : RanAtOnce h.hand.seat.me.0.plan.layout h.hand.actor (Op.Load c.args.g c.args.d c.args.b c.args.k) 4 h.hand.machine.actor h.hand.seat.me new.machine.actor new.seat.me c.load_at_once.result =
    subst (λ (l : Layout). RanAtOnce l h.hand.actor (Op.Load c.args.g c.args.d c.args.b c.args.k) 4 h.hand.machine.actor h.hand.seat.me new.machine.actor new.seat.me c.load_at_once.result) h.hand.belongs.0 c.load_at_once.ensures.ran in
    record {
      founds = did.founds;
      few = did.few;
      did = record {
        of = record { table = c.load_at_once.ensures.same ∙ c.requires.going.of.table; plan = did.ran.plan ∙ c.requires.going.of.plan };
        number = refl;
        ran = did.ran;
        gave = did.gave;
        saw = did.saw;
        shows = shows_then (Op.Load c.args.g c.args.d c.args.b c.args.k) h _ did.founds (Some c.load_at_once.result) c.requires.going.processor c.requires.going.going refl did.ran did.gave;
      };
    }

pub returns-clause-fault : goal.returns-clause-fault
returns-clause-fault c =
    let h = c.args.h.now in
    let new = c.load_at_once.new in
    let did : RanAtOnce h.hand.seat.me.0.plan.layout h.hand.actor (Op.Load c.args.g c.args.d c.args.b c.args.k) 4 h.hand.machine.actor h.hand.seat.me new.machine.actor new.seat.me c.load_at_once.result =
    subst (λ (l : Layout). RanAtOnce l h.hand.actor (Op.Load c.args.g c.args.d c.args.b c.args.k) 4 h.hand.machine.actor h.hand.seat.me new.machine.actor new.seat.me c.load_at_once.result) h.hand.belongs.0 c.load_at_once.ensures.ran in
    fault_leaves_all c.args.self.now (Op.Load c.args.g c.args.d c.args.b c.args.k) h _ _ did.founds c.faults_change_nothing.ensures h.kept.rests c.requires.going.going (record {
      of = record { table = c.load_at_once.ensures.same ∙ c.requires.going.of.table; plan = did.ran.plan ∙ c.requires.going.of.plan };
      number = refl;
      ran = did.ran;
      gave = did.gave;
      saw = did.saw;
      shows = shows_then (Op.Load c.args.g c.args.d c.args.b c.args.k) h _ did.founds (Some c.load_at_once.result) c.requires.going.processor c.requires.going.going refl did.ran did.gave;
    }) c.requires.going.processor

pub returns-clause-room : goal.returns-clause-room
returns-clause-room c = (load_served c.args.self.now c.args.g c.args.d c.args.b c.args.k c.args.h.now _ _ (returns-clause-did c).founds c.requires.going.processor (returns-clause-did c).did).0

pub returns-clause-answer : goal.returns-clause-answer
returns-clause-answer c = (load_served c.args.self.now c.args.g c.args.d c.args.b c.args.k c.args.h.now _ _ (returns-clause-did c).founds c.requires.going.processor (returns-clause-did c).did).1
