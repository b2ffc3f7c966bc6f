-- A try, by what it is told.
use Rattle.std.proofs.Common.{◌≡◌, ◌≢◌, ℕ, suc, Bool, true, false, cond, eqb, Option, Some, None, refl, sym, ap, ◌∙◌, arith, inl, inr, ◌&&◌}
use Rattle.std.proofs.lemmas.Bool.{eqb-true, eq-eqb}
use Rattle.gh_wbuf.proofs.Vocabulary.{asks, buffer_of, Claim, claimed, claims, Ended, EndsAt, GiveBack, given, given_at, goes, Has, Held, is_busy, is_open, IsOpen, Layout, serves, swap_step, taken, told, TriesBuffer, Trying, Wish}
use Rattle.gh_wbuf.specs.Trying.{at_stage, opening, transitions}
use Rattle.gh_wbuf.proofs.Trying.{answers_once, ends_once}

-- what the tests of a word say

serves_it : (wish : Wish) (count : ℕ) → Has wish count → serves wish count ≡ true
serves_it wish count h = grind arith

pub open_yes : (wish : Wish) (word : ℕ) → is_open wish word ≡ true → IsOpen wish word
open_yes wish word e = grind arith

pub open_no : (wish : Wish) (word : ℕ) → is_open wish word ≡ false → ¬ IsOpen wish word
open_no wish word e o =
    let yes : is_open wish word ≡ true = ap (λ (b : Bool). b && serves wish (buffer_of word).count) (eq-eqb _ _ o.free) ∙ serves_it wish (buffer_of word).count o.has in
    absurd (cc)

module _ (l : Layout) (seat : ℕ) (wish : Wish) (index : ℕ) (held : Option Held) (found : ℕ → ℕ) where
  abbrev from : Trying
  from = opening seat wish index held

  abbrev word : ℕ
  word = found 0

  abbrev after : ℕ → Trying
  after n = told (transitions l) from found n

  looked : (free : Bool) → is_open wish word ≡ free → after 1 ≡ at_stage from (cond free (claims from held word) (Ended None))
  looked free e = ap (λ (b : Bool). at_stage from (cond b (claims from held word) (Ended None))) e

  not_free : is_open wish word ≡ false → TriesBuffer l from found
  not_free e =
      let closed : ¬ IsOpen wish word = open_no wish word e in
      let end : EndsAt (transitions l) from found 0 None = (refl, ap (λ (b : Bool). given_at (cond b (claims from held word) (Ended None))) e) in
      record {
        loads = refl;
        gives_back = λ h is free. absurd (closed free);
        swaps = λ free. absurd (closed free);
        none = (λ _. inl closed, λ _. (0, end));
        some = λ h. (λ q. absurd (let is : Some h ≡ None = answers_once l from found q.0 0 (Some h) None q.1 end in cc), λ q. absurd (closed q.0));
        ends = (0, None, end);
        holds_some = λ n h q. absurd (let is : Some h ≡ None = answers_once l from found n 0 (Some h) None q end in cc);
        holds_none = λ n q free. absurd (closed free);
        holds_still = λ n q _. let is : n ≡ 0 = ends_once l from found n 0 None None q end in ap (λ (k : ℕ). (after (suc k)).held) is;
      }

  -- at the swap it holds none
  abbrev claiming : Trying
  claiming = record from { held = None; stage = Claim word }

  module _ (yes : is_open wish word ≡ true) (back : (h : Held) → held ≡ Some h → after 1 ≡ at_stage from (GiveBack word)) (at : after (swap_step held) ≡ claiming) where
    abbrev last : ℕ
    last = swap_step held

    free : IsOpen wish word
    free = grind arith

    then : (wrote : Bool) → eqb (found last) word ≡ wrote → after (suc last) ≡ claimed claiming word wrote
    then wrote e = ap (λ (s : Trying). goes s (found last)) at ∙ ap (claimed claiming word) e

    outcome : (wrote : Bool) (out : Option Held) → eqb (found last) word ≡ wrote → given (claimed claiming word wrote) ≡ Some out → EndsAt (transitions l) from found last out
    outcome wrote out e is = (ap (λ (s : Trying). is_busy s.stage) at, ap given (then wrote e) ∙ is)

    is_held : (n : ℕ) → n ≡ last → (wrote : Bool) → eqb (found last) word ≡ wrote → (after (suc n)).held ≡ (claimed claiming word wrote).held
    is_held n is wrote e = ap (λ (k : ℕ). (after (suc k)).held) is ∙ ap (λ (s : Trying). s.held) (then wrote e)

    by : (wrote : Bool) → eqb (found last) word ≡ wrote → TriesBuffer l from found
    by true e =
        let end : EndsAt (transitions l) from found last (Some (taken index word)) = outcome true (Some (taken index word)) e refl in
        let same : found last ≡ word = eqb-true _ _ e in
        record {
          loads = refl;
          gives_back = λ h is _. ap asks (back h is) ∙ ap (λ (o : Option Held). asks (at_stage (opening seat wish index o) (GiveBack word))) is;
          swaps = λ _. ap asks at;
          none = (λ q. absurd (let is : None ≡ Some (taken index word) = answers_once l from found q.0 last None (Some (taken index word)) q.1 end in cc), λ q. absurd (elim q [ inl taken_before ↦ taken_before free | inr ne ↦ ne same ]));
          some = λ h. (λ q. (free, same, let is : Some h ≡ Some (taken index word) = answers_once l from found q.0 last (Some h) (Some (taken index word)) q.1 end in cc), λ q. (last, (end.0, end.1 ∙ ap (λ (k : Held). Some (Some k)) (sym q.2))));
          ends = (last, Some (taken index word), end);
          holds_some = λ n h q.
              let is : Some h ≡ Some (taken index word) = answers_once l from found n last (Some h) (Some (taken index word)) q end in
              is_held n (ends_once l from found n last (Some h) (Some (taken index word)) q end) true e ∙ sym is;
          holds_none = λ n q _. absurd (let is : None ≡ Some (taken index word) = answers_once l from found n last None (Some (taken index word)) q end in cc);
          holds_still = λ n q closed. absurd (closed free);
        }
    by false e =
        let end : EndsAt (transitions l) from found last None = outcome false None e refl in
        let differ : found last ≢ word = λ z. absurd (cc (e, eq-eqb _ _ z)) in
        record {
          loads = refl;
          gives_back = λ h is _. ap asks (back h is) ∙ ap (λ (o : Option Held). asks (at_stage (opening seat wish index o) (GiveBack word))) is;
          swaps = λ _. ap asks at;
          none = (λ _. inr differ, λ _. (last, end));
          some = λ h. (λ q. absurd (let is : Some h ≡ None = answers_once l from found q.0 last (Some h) None q.1 end in cc), λ q. absurd (differ q.1));
          ends = (last, None, end);
          holds_some = λ n h q. absurd (let is : Some h ≡ None = answers_once l from found n last (Some h) None q end in cc);
          holds_none = λ n q _. is_held n (ends_once l from found n last None None q end) false e;
          holds_still = λ n q closed. absurd (closed free);
        }

    pub is_free : TriesBuffer l from found
    is_free = by (eqb (found last) word) refl

pub tries : (l : Layout) (seat : ℕ) (wish : Wish) (index : ℕ) (held : Option Held) (found : ℕ → ℕ) → TriesBuffer l (opening seat wish index held) found
tries l seat wish index held found = by held (is_open wish (found 0)) refl where
  by : (held : Option Held) (free : Bool) → is_open wish (found 0) ≡ free → TriesBuffer l (opening seat wish index held) found
  by held false e = not_free l seat wish index held found e
  by None true e = is_free l seat wish index None found e (λ h is. absurd (cc)) (looked l seat wish index None found true e)
  by (Some h) true e = is_free l seat wish index (Some h) found e (λ _ _. looked l seat wish index (Some h) found true e) (ap (λ (s : Trying). goes s (found 1)) (looked l seat wish index (Some h) found true e))
