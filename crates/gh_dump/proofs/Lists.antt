-- Tests, and where in a list an element stands that passes one.
use Rattle.std.proofs.Common.{◌≡◌, ℕ, zero, suc, ◌<◌, Bool, true, false, not, ◌||◌, ◌&&◌, List, [], ◌∷◌, take, Some, refl, ap, ◌∙◌, arith}
use Rattle.std.proofs.lemmas.Option.{same_Some}
use Rattle.gh_dump.specs.Vocabulary.{list_any, slice_get}

pub and_parts : (a b : Bool) → (a && b) ≡ true → (a ≡ true) × (b ≡ true)
and_parts true b h = (refl, h)
and_parts false b h = absurd (cc)

pub not_false : (a : Bool) → not a ≡ false → a ≡ true
not_false true h = refl
not_false false h = absurd (cc)

or_right : (a : Bool) → (a || true) ≡ true
or_right true = refl
or_right false = refl

module _ {A : Type 0} where
  -- an element of a beginning stands where it stands in the whole
  pub get_before : (xs : List A) (i j : ℕ) (x : A) → i < j → slice_get xs i ≡ Some x → slice_get (take j xs) i ≡ Some x
  get_before [] i j x lt e = absurd (cc)
  get_before (y ∷ ys) i zero x lt e = absurd (omega arith)
  get_before (y ∷ ys) zero (suc j) x lt e = e
  get_before (y ∷ ys) (suc i) (suc j) x lt e = get_before ys i j x (omega arith) e

module _ {A : Type 0} (p : A → Bool) where
  pub any_at : (xs : List A) → list_any p xs ≡ true → (i : ℕ) × (x : A) × (slice_get xs i ≡ Some x) × (p x ≡ true)
  any_at [] h = absurd (cc)
  any_at (x ∷ xs) h = go (p x) refl h (any_at xs) where
    go : (b : Bool) → p x ≡ b → (b || list_any p xs) ≡ true → (list_any p xs ≡ true → (i : ℕ) × (y : A) × (slice_get xs i ≡ Some y) × (p y ≡ true)) → (i : ℕ) × (y : A) × (slice_get (x ∷ xs) i ≡ Some y) × (p y ≡ true)
    go true t h ih = (0, x, refl, t)
    go false f h ih = let r = ih h in (suc r.0, r.1, r.2, r.3)

  pub at_any : (xs : List A) (i : ℕ) (x : A) → slice_get xs i ≡ Some x → p x ≡ true → list_any p xs ≡ true
  at_any [] i x e t = absurd (cc)
  at_any (y ∷ ys) zero x e t = let u : p y ≡ true = ap p (same_Some y x e) ∙ t in rw u refl
  at_any (y ∷ ys) (suc i) x e t = let u : list_any p ys ≡ true = at_any ys i x e t in rw u (or_right (p y))

  -- an element that passes stands before place j
  pub any_before : (xs : List A) (i j : ℕ) (x : A) → i < j → slice_get xs i ≡ Some x → p x ≡ true → list_any p (take j xs) ≡ true
  any_before xs i j x lt e t = at_any (take j xs) i x (get_before xs i j x lt e) t
