use Rattle.std.proofs.Common.{ap, sym, ◌∙◌, subst, ◌≡◌}
use Rattle.gh_table.proofs.Vocabulary.{has, state_of}
use Rattle.gh_table.proofs.Entries.{same_state}
use Rattle.gh_table.proofs.Running.{or_true}
use Rattle.gh_table.proofs.hand.Hand.join.Goals as goal

pub invariant_of-self : goal.invariant_of-self
invariant_of-self g c =
    let me = c.args.self.now in
    let new = c.join_other.new.seat.me in
    let plan : new.0.plan ≡ me.seat.me.0.plan = c.join_other.ensures.same.2 in record {
      carries = c.join_other.ensures.carries me.actor ∙ or_true (has me.seat.me.0.actors me.actor) (has c.args.other.seat.me.0.actors me.actor) me.carries;
      belongs = subst (λ (p : g.row.K.Denot). g.M.Acts.belongs p me.machine) (sym plan) me.belongs;
      state = me.state
          ∙ (sym (same_state c.a_state_is_of_its_own_entries.ensures (g.K.Plan.setting me.seat.me.0.plan).kind me.actor new.0.log me.seat.me.0.log (c.join_other.ensures.own me.actor me.carries))
          ∙ ap (λ (p : g.row.K.Denot). state_of (g.K.Plan.setting p).kind me.actor new.0.log) (sym plan));
      slotless = c.join_other.ensures.same.1 ∙ me.slotless;
    }
