-- A processor keeps its place among its turns, whoever makes its steps.
use Rattle.std.proofs.Common.{◌≡◌, ℕ, ◌<◌, Bool, true, cond, eqb, ◌||◌, List, [], ◌∷◌, ◌++◌, reverse, refl, sym, ◌∙◌, ap, Option, Some, None, arith}
use Rattle.std.proofs.lemmas.Bool.{eq-eqb}
use Rattle.gh_world.proofs.Vocabulary.{AreTurns, begun_in, by, EachKeepsItsPlace, ended_in, ends, Entry, Follows, has_left, is_statement, its_goroutine, KeepsPlace, leaves, Next, Op, op_due, opening_progress, option_to_list, Program, Progress, progress_after, read_replicate, statement_count, statement_now, to_come, turns_of, WellFormed, WhatIsDueFits}
use Rattle.gh_world.proofs.Due.{due_goroutine}
use Rattle.gh_world.proofs.MayBegin.{due_fits, ended_then, left_then}
use Rattle.gh_world.proofs.OneRun.{one_more}
use Rattle.gh_world.proofs.WorldFacts.{counted_after, now_after}

pub what_is_due_fits : WhatIsDueFits
what_is_due_fits p l a t es o formed lays turns k due = due_fits p l formed lays a (by a es) t.next o due turns.stands k.turns k.ended k.left

module _ (p : Program) (a : ℕ) where
  opens : (first : Next) → to_come p a first ≡ turns_of p a → KeepsPlace p a (opening_progress first) []
  opens first come = record {
    turns = sym come;
    counted = λ g lt. read_replicate {A = ℕ} 32 g 0;
    now = refl;
    ended = λ g h. absurd (cc);
    left = λ h. absurd (cc);
  }

  -- it has the same own entries, but for what is begun
  module _ (t : Progress) (es : List (Entry Op)) (k : KeepsPlace p a t es) where
    others : (e : Entry Op) → (e.actor ≡ a → ⊥) → KeepsPlace p a t (e ∷ es)
    others e apart = record { turns = grind arith; counted = grind arith; now = grind arith; ended = grind arith; left = grind arith }

    goes_on : (e : Entry Op) → e.begun ≡ None → KeepsPlace p a t (e ∷ es)
    goes_on e none = grind arith

    begins : (e : Entry Op) (o : Op) (new : Next) → WellFormed p → AreTurns p a t → e.actor ≡ a → e.begun ≡ Some o → op_due p t.next ≡ Some o → Follows p a t.next o new → KeepsPlace p a (progress_after t (Some o) new) (e ∷ es)
    begins e o new formed turns its is due follows =
        let own : by a (e ∷ es) ≡ e ∷ by a es = ap (λ (b : Bool). cond b (e ∷ by a es) (by a es)) (ap (λ (n : ℕ). eqb n a) its ∙ eq-eqb a a refl) in
        let bs = begun_in (by a es) in
        let begun : begun_in (by a (e ∷ es)) ≡ o ∷ bs = ap begun_in own ∙ ap (λ (b : Option Op). option_to_list b ++ bs) is in
        let here : (x : Op) → Some o ≡ Some x → is_statement x ≡ true → its_goroutine x < 32 = λ x same sure. due_goroutine p a t.next x formed turns.stands (due ∙ same) sure in
        record {
          turns = k.turns ∙ ap (λ (os : List Op). reverse bs ++ os) follows.come ∙ sym (one_more o bs (to_come p a new)) ∙ ap (λ (os : List Op). reverse os ++ to_come p a new) (sym begun);
          counted = λ g lt. counted_after t (Some o) bs turns.columns here k.counted g lt ∙ ap (statement_count g) (sym begun);
          now = now_after t (Some o) bs turns.columns here k.counted k.now ∙ ap statement_now (sym begun);
          ended = λ g h. ended_then p a t.next o new (ended_in (by a es)) follows k.ended g (sym (ap (λ (fs : List (Entry Op)). ended_in fs g) own ∙ ap (λ (b : Option Op). ends b g || ended_in (by a es) g) is) ∙ h);
          left = λ h. left_then p a t.next o new (has_left (by a es)) follows due k.left (sym (ap has_left own ∙ ap (λ (b : Option Op). leaves b || has_left (by a es)) is) ∙ h);
        }

pub each_keeps_its_place : EachKeepsItsPlace
each_keeps_its_place p a = record {
  opens = opens p a;
  begins = λ t es e o new formed turns k its is due follows. begins p a t es k e o new formed turns its is due follows;
  goes_on = λ t es e k none. goes_on p a t es k e none;
  others = λ t es e k apart. others p a t es k e apart;
}
