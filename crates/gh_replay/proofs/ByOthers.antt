-- By an item without an actor that actor takes no turn.
use Rattle.std.proofs.Common.{◌≡◌, ℕ, ◌<◌, true, false, eqb, List, ◌∷◌, Some, sym, ap, ◌∙◌}
use Rattle.std.proofs.lemmas.Bool.{eq-eqb}
use Rattle.gh_replay.proofs.Vocabulary.{ActorsSoFar, OthersTakeTurns, passed, reached_in, Standing, stands_in, to_come, Turn, who, who_of, with_actor_ended, Without}
use Rattle.gh_replay.proofs.Choosing.{behind_there, either_false, next_low}
use Rattle.gh_replay.proofs.OneRun.{stands_low}

-- whoever steps by it is another
another : (r : ActorsSoFar) (s : Standing) (a b n : ℕ) (more : List Turn) → s.next < r.actors → to_come r s.items ≡ record { actor = a; until = Without n } ∷ more → who r s ≡ Some b → eqb a b ≡ false
another r s a b n more low first is =
    let here : who_of r (record { actor = a; until = Without n } ∷ more) (passed r s) ≡ Some b = ap (λ (xs : List Turn). who_of r xs (passed r s)) (sym first) ∙ is in
    let there = behind_there (with_actor_ended a r) (passed r s).next b s.drawn (next_low r s.items s.next low) here in
    (either_false (eqb a b) (r.ended b) there.1).0

pub by_others : OthersTakeTurns
by_others p l plan e es a n more scheduled first same =
    let other = another (reached_in p l es) (stands_in p l plan es) a e.actor n more (stands_low p l plan es) first scheduled.1 in
    let no : true ≡ false = sym (eq-eqb a e.actor (sym same)) ∙ other in
    absurd cc
