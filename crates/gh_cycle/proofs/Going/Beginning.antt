-- Where a cycle begins, what a script reaches, what is known and what is of the cycle are the same; so processors may go on beside it.
use Rattle.std.proofs.Common.{ap, refl, subst, sym, ◌∙◌}
use Rattle.gh_cycle.proofs.Vocabulary.{Cell, CyclesBeginBeside, IsKnownObject, Name, Reach, TheHeapIsApart, TheReachedWereMade, view, Words}
use Rattle.gh_cycle.proofs.Beginning.{registers-fit}

pub cycles-begin : TheHeapIsApart → TheReachedWereMade → CyclesBeginBeside
cycles-begin apart made z h s g b rest c are none = record {
  words = c.words;
  reached = λ n r. c.since (h.place n) ∙ (c.known (h.place n)).1 (n, r, refl);
  known = λ n r. (c.known (h.place n)).1 (n, r, refl);
  base = c.base;
  size = λ n o. c.size n (reach n o);
  pointer = λ n k o l. c.pointer n k (reach n o) l;
  noscan = λ n o. c.noscan n (reach n o);
  filling = λ o a is. absurd (none o a is);
  registers = registers-fit z.arena h s are;
  goes_on = λ j l runs is. let over = rest.over j (sym (ap (λ (w : Words). w (Cell.Scanned j)) c.words) ∙ is) in absurd (cc);
} where
  reach : (n : Name) → IsKnownObject h s n → Reach h.ever n
  reach n o =
      let w = (c.known (h.place n)).0 o.known in
      subst (λ (m : Name). Reach h.ever m) ((apart z.arena (view h) g).once w.0 n (made z.arena h.ever b w.0 w.1) o.made (g.reached w.0 w.1) o.placed w.2) w.1
