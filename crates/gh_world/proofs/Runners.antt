-- The processors of a world: what a list with one element changed keeps, what a step of another actor leaves of them, and sums over them.
use Rattle.std.proofs.Common.{◌≡◌, ℕ, zero, suc, ◌+◌, ◌<◌, ◌≤◌, Bool, true, false, eqb, List, [], ◌∷◌, ◌++◌, length, length-set, get_or, refl, sym, ◌∙◌, ap, subst, Some, arith, sum_by, slice_get}
use Rattle.std.proofs.lemmas.Bool.{eqb-true}
use Rattle.std.proofs.lemmas.List.{get_or-set_other, get_or-set_same}
use Rattle.gh_world.proofs.Vocabulary.{Entry, eqb-false, get_or_from_slice_get, Layout, Op, Program, range_with_len, Runner, set, slice_get-get_or, slice_get_within, sum_by-cons}
use Rattle.gh_world.proofs.Due.{false_unless}
use Rattle.gh_world.proofs.Parts.{IsRunnerAt}

-- what holds of the element that is set, and of each other one, holds of each
pub each_set : {A : Type 0} (Q : ℕ → A → Type 0) (xs : List A) (i : ℕ) (x y : A) → slice_get xs i ≡ Some x → Q i y → ((j : ℕ) (z : A) → (i ≡ j → ⊥) → slice_get xs j ≡ Some z → Q j z) → (j : ℕ) (z : A) → slice_get (set xs i y) j ≡ Some z → Q j z
each_set {A} Q xs i x y is here others j z e = go (eqb i j) refl where
  read : get_or (set xs i y) j x ≡ z
  read = get_or_from_slice_get (set xs i y) j z x e

  go : (b : Bool) → eqb i j ≡ b → Q j z
  go true f =
      let same : i ≡ j = eqb-true i j f in
      let now : y ≡ z = sym (get_or-set_same xs i y x (slice_get_within xs i x is)) ∙ ap (λ (k : ℕ). get_or (set xs i y) k x) same ∙ read in
      subst (λ (k : ℕ). Q k z) same (subst (λ (w : A). Q i w) now here)
  go false f =
      let apart : i ≡ j → ⊥ = eqb-false i j f in
      let within : j < length (set xs i y) = slice_get_within (set xs i y) j z e in
      let long : length (set xs i y) ≡ length xs = simp length-set refl in
      let before : get_or xs j x ≡ z = sym (get_or-set_other xs i j y x (λ q. apart (sym q))) ∙ read in
      others j z apart (slice_get-get_or xs j x (omega (arith, within, long)) ∙ ap Some before)

-- what holds of each element, and of one more behind them, holds of each then
pub each_more : {A : Type 0} (Q : ℕ → A → Type 0) (xs : List A) (y : A) → ((i : ℕ) (x : A) → slice_get xs i ≡ Some x → Q i x) → Q (length xs) y → (i : ℕ) (x : A) → slice_get (xs ++ y ∷ []) i ≡ Some x → Q i x
each_more Q [] y each new zero x e = let same : y ≡ x = cc in subst (Q 0) same new
each_more Q [] y each new (suc i) x e = absurd (cc)
each_more Q (z ∷ xs) y each new zero x e = each zero x e
each_more {A} Q (z ∷ xs) y each new (suc i) x e = each_more (λ (j : ℕ) (w : A). Q (suc j) w) xs y (λ j w. each (suc j) w) new i x e

-- ---- sums

-- each term is at most that of its seat
pub sum_at : {A : Type 0} (f : A → ℕ) (h : ℕ → ℕ) (xs : List A) (k : ℕ) → ((i : ℕ) (x : A) → slice_get xs i ≡ Some x → f x ≤ h (k + i)) → sum_by f xs ≤ sum_by h (range_with_len k (length xs))
sum_at f h [] k le = omega arith
sum_at {A} f h (x ∷ xs) k le =
    let first : f x ≤ h (k + 0) = le 0 x refl in
    let start : k + 0 ≡ k = omega arith in
    let here : f x ≤ h k = subst (λ (n : ℕ). f x ≤ h n) start first in
    let rest = sum_at f h xs (k + 1) (λ i y e. let on : k + suc i ≡ (k + 1) + i = omega arith in subst (λ (n : ℕ). f y ≤ h n) on (le (suc i) y e)) in
    let head = sum_by-cons f x xs in
    let seats = sum_by-cons h k (range_with_len (k + 1) (length xs)) in
    omega (arith, here, rest, head, seats)

-- each term is at most the other
pub sum_each : {A : Type 0} (f g : A → ℕ) (xs : List A) → ((i : ℕ) (x : A) → slice_get xs i ≡ Some x → f x ≤ g x) → sum_by f xs ≤ sum_by g xs
sum_each f g [] le = omega arith
sum_each f g (x ∷ xs) le = let here = le 0 x refl in let rest = sum_each f g xs (λ i y e. le (suc i) y e) in let one = sum_by-cons f x xs in let other = sum_by-cons g x xs in omega (arith, here, rest, one, other)

-- ---- a step of another actor

pub runner_stays : (p : Program) (l : Layout) (a : ℕ) (x : Runner) (e : Entry Op) (es : List (Entry Op)) → (e.actor ≡ a → ⊥) → IsRunnerAt p l a x es → IsRunnerAt p l a x (e ∷ es)
runner_stays p l a x e es apart r =
    let other : eqb e.actor a ≡ false = false_unless (eqb e.actor a) (λ t. apart (eqb-true e.actor a t)) in
    record {
      processor = rw other r.processor;
      turns = rw other r.turns;
      counted = λ g lt. rw other (r.counted g lt);
      now = rw other r.now;
      ended = λ g h. r.ended g (rw other at h);
      left = λ h. r.left (rw other at h);
      marked = rw other (omega (arith, r.marked));
    }
