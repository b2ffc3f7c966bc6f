-- Where a schedule says nothing the actors take turns in ascending order.
use Rattle.std.proofs.Common.{◌≡◌, ℕ, List, [], ◌∷◌, None, refl, sym, ap, ◌∙◌, arith}
use Rattle.gh_replay.proofs.Vocabulary.{Entry, IsInTurn, IsScheduled, Layout, moved, next_in, no_plan, NothingSaidIsInTurn, Op, Program, reached_in, setting_of, Standing, stands_in, turn_in, who}

module _ (p : Program) (l : Layout) where
  abbrev alone : ℕ → Standing
  alone next = record { items = []; next = next; drawn = None }

  stands_alone : (es : List (Entry Op)) → stands_in p l no_plan es ≡ alone (next_in (setting_of p l) es)
  stands_alone [] = refl
  stands_alone (e ∷ es) = ap (moved (reached_in p l es) e.actor) (stands_alone es)

  same_turn : (es : List (Entry Op)) → who (reached_in p l es) (stands_in p l no_plan es) ≡ turn_in p l es (next_in (setting_of p l) es)
  same_turn es = grind (arith, stands_alone)

  to : (es : List (Entry Op)) → IsScheduled p l no_plan es → IsInTurn (setting_of p l) es
  to [] h = tt
  to (e ∷ es) h = (to es h.0, sym (same_turn es) ∙ h.1)

  from : (es : List (Entry Op)) → IsInTurn (setting_of p l) es → IsScheduled p l no_plan es
  from [] h = tt
  from (e ∷ es) h = (from es h.0, same_turn es ∙ h.1)

pub said_nothing : NothingSaidIsInTurn
said_nothing p l es = (to p l es, from p l es)
