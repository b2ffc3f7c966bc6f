use Rattle.std.proofs.Common.{◌≡◌, ◌∙◌, ℕ, ap, refl, subst, sym}
use Rattle.gh_shared.proofs.Vocabulary.{Acting, actor_in, CountsFirst, machine_actor, one_carried, Program, setting}
use Rattle.gh_shared.proofs.Carrying.{carries_so}
use Rattle.gh_shared.proofs.Fresh.{kept_so, opens_so}
use Rattle.gh_shared.proofs.heap.Heap.handle_of.Goals as goal

pub new-hand-requires : goal.new-hand-requires
new-hand-requires c =
    let f = opens_so c.args.plan.now c.args.actor c.in_ok-machine.machine.actor c.args.place.me.0 (ap (λ m. m.0) c.requires.seat) (ap (λ (x : Acting). x.actor) c.in_ok-machine.ensures) in
    record { carries = f.carries; belongs = (ap (λ (x : Acting). x.layout) c.in_ok-machine.ensures ∙ sym (ap (λ m. m.0.plan.layout) c.requires.seat), f.shapes); state = f.state; slotless = ap (λ m. m.1) c.requires.seat }

pub invariant_of-result : goal.invariant_of-result
invariant_of-result c =
    let counts = c.in_ok-counts.counts in
    let is = c.new-hand.ensures in
    record {
      kept = rw (is.0) (kept_so c.args.plan.now c.args.actor c.new-hand.result.machine.actor c.new-hand.result.seat.me.0 counts.procs counts.left.items counts.over.items counts.gone (ap (λ m. m.0) is.3 ∙ ap (λ m. m.0) c.requires.seat) (ap (λ (x : Acting). x.actor) (is.1 ∙ c.in_ok-machine.ensures)) (subst (λ (p : Program). CountsFirst p counts.procs counts.left.items counts.over.items counts.gone) c.requires.script c.in_ok-counts.ensures) c.requires.lays);
      carries =
          let me = c.new-hand.result.seat.me.0 in
          let view : me ≡ one_carried c.args.plan.now c.args.actor = ap (λ m. m.0) is.3 ∙ ap (λ m. m.0) c.requires.seat in
          rw (is.0) (carries_so c.args.plan.now c.args.actor c.new-hand.result.machine.actor me c.requires.actor view (ap (λ (x : Acting). x.actor) (is.1 ∙ c.in_ok-machine.ensures)) (subst (λ (a : ℕ). machine_actor c.new-hand.result.machine.actor ≡ actor_in setting me a) is.0 c.new-hand.result.state));
    }

pub returns : goal.returns
returns c =
    let is = c.new-hand.ensures in
    record {
      of = record {
        table = is.2 ∙ c.requires.table;
        plan = ap (λ m. m.0.plan) is.3 ∙ ap (λ m. m.0.plan) c.requires.seat ∙ sym c.requires.key;
      };
      number = is.0;
      machine = ap (λ (x : Acting). x.actor) (is.1 ∙ c.in_ok-machine.ensures) ∙ rw (c.requires.key) refl;
      view = ap (λ m. m.0) is.3 ∙ ap (λ m. m.0) c.requires.seat ∙ rw (c.requires.key) refl;
    }
