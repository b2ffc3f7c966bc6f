use Rattle.std.proofs.Common.{ℕ, ◌+◌, ◌%◌, ◌^◌, ◌∙◌, ap, subst, sym}
use Rattle.std.specs.Slots.{slots_items}
use Rattle.gh_shared.proofs.Vocabulary.{Acting, credit_drawn, IsAfterOneList, IsClosedAfter, leader_of, plan_of, setting}
use Rattle.gh_shared.proofs.Carrying.{closed_so, led_none}
use Rattle.gh_shared.proofs.heap.Heap.close.Goals as goal

pub unreachable-requires : goal.unreachable-requires
unreachable-requires c =
    let l = c.args.last in
    let is = c.leader_of.ensures ∙ ap (λ (x : Acting). leader_of x.actor l.led) c.into_parts-machine.ensures.machine in
    led_none c.a_state_is_of_its_own_entries.ensures (plan_of c.args.self) l.hand.seat.me.0 l.hand.actor l.hand.machine.actor l.carried l.drawn l.led c.requires.of.plan l.carries c.requires.all (sym is ∙ c.in-None.is)

pub returns-clause-after : goal.returns-clause-after
returns-clause-after c =
    let l = c.args.last in
    let is = c.leader_of.ensures ∙ ap (λ (x : Acting). leader_of x.actor l.led) c.into_parts-machine.ensures.machine in
    let drawn = ap (λ (n : ℕ). (l.drawn + n) % 2 ^ 64) (c.drawn_by.ensures ∙ ap (λ (x : Acting). credit_drawn x.actor) c.into_parts-machine.ensures.machine) in
    subst (λ (n : ℕ). IsClosedAfter (plan_of c.args.self) l.hand.seat.me.0 c.in-Some.coordinator n (slots_items c.close-words.result.words)) (sym drawn)
    (closed_so c.a_state_is_of_its_own_entries.ensures (plan_of c.args.self) l.hand.seat.me.0 l.hand.actor l.hand.machine.actor l.carried l.drawn l.led c.requires.of.plan l.carries c.requires.all c.every_list_of_a_script_balances.ensures.settled c.in-Some.coordinator (slots_items c.close-words.result.words) (sym is ∙ c.in-Some.is) l.hand.state
    (subst (λ m. IsAfterOneList setting (plan_of c.args.self) m.0 (slots_items c.close-words.result.words)) c.into_parts-machine.ensures.seat.1 c.close-words.ensures.after))
