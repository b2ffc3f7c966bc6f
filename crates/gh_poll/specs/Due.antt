-- Which stack is due: one of the processor's, whose goroutine has not ended, and which was not scanned in the cycle.
use Rattle.std.proofs.Common.{◌≡◌, ◌≢◌, ℕ, zero, suc, ◌+◌, ◌%◌, ◌<◌, Bool, true, false, cond, List, [], ◌∷◌, drop, Some, None, refl, sym, ap, subst, ◌∙◌, arith, slice_index}
use Rattle.std.proofs.lemmas.List.{drop-drop}
use Rattle.gh_poll.specs.Vocabulary.{END, Ended, Layout, Local}
use Rattle.gh_poll.specs.Poll.{due, first_due, is_due, is_turn, Polling}

pub record IsUnscanned (l : Layout) (seat : ℕ) (local : Local) (g : ℕ) : Type 0 where
  pub there : g < l.goroutines
  pub own : g % l.procs ≡ seat
  pub going : slice_index local.scanned g ≢ END
  pub unscanned : slice_index local.scanned g ≢ local.view.begun

pub index_is : (i : ℕ) (xs : List ℕ) (v : ℕ) (vs : List ℕ) → drop i xs ≡ v ∷ vs → slice_index xs i ≡ v
index_is zero xs v vs e = ap (λ (ys : List ℕ). slice_index ys 0) e
index_is (suc i) [] v vs e = absurd (cc)
index_is (suc i) (x ∷ xs) v vs e = index_is i xs v vs e

pub drop_next : (i : ℕ) (xs : List ℕ) (v : ℕ) (vs : List ℕ) → drop i xs ≡ v ∷ vs → drop (i + 1) xs ≡ vs
drop_next i xs v vs e = sym (drop-drop 1 i xs) ∙ ap (drop 1) e

module _ (l : Layout) (seat : ℕ) (waits : Bool) (local : Local) where
  abbrev ended : Polling
  ended = record { seat = seat; waits = waits; local = local; stage = Ended }

  pub due_scans : (g : ℕ) → due l ended ≡ Some g → IsUnscanned l seat local g
  due_scans g e = by (is_turn local.polls) e where
    wants : (i : ℕ) → is_due l seat local.view.begun i (slice_index local.scanned i) ≡ true → IsUnscanned l seat local i
    wants i e = grind arith

    first_is : (i : ℕ) (others : List ℕ) → drop i local.scanned ≡ others → first_due l seat local.view.begun i others ≡ Some g → IsUnscanned l seat local g
    first_is i [] d e = absurd (cc)
    first_is i (last ∷ others) d e = here (first_is (i + 1) others (drop_next i local.scanned last others d)) (is_due l seat local.view.begun i last) refl e where
      here : (first_due l seat local.view.begun (i + 1) others ≡ Some g → IsUnscanned l seat local g) → (b : Bool) → is_due l seat local.view.begun i last ≡ b → cond b (Some i) (first_due l seat local.view.begun (i + 1) others) ≡ Some g → IsUnscanned l seat local g
      here more true f e =
          let is : i ≡ g = cc in
          subst (λ (x : ℕ). IsUnscanned l seat local x) is (wants i (ap (λ (x : ℕ). is_due l seat local.view.begun i x) (index_is i local.scanned last others d) ∙ f))
      here more false f e = more e

    by : (fourth : Bool) → cond fourth (first_due l seat local.view.begun 0 local.scanned) None ≡ Some g → IsUnscanned l seat local g
    by true d = first_is 0 local.scanned refl d
    by false d = absurd (cc)
