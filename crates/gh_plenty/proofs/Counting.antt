-- Pairs of numbers that have numbers below a bound, no two the same, are no more than the bound.
use Rattle.std.proofs.Common.{◌≡◌, ℕ, zero, suc, ◌+◌, ◌*◌, ◌/◌, ◌%◌, ◌<◌, ◌≤◌, Bool, true, false, eqb, ◌||◌, inl, inr, List, [], ◌∷◌, length, refl, sym, ap, subst, arith, mul-le-mul_left, mul_comm}
use Rattle.std.proofs.lemmas.Bool.{eqb-true}
use Rattle.std.proofs.lemmas.Map.Steps.{length-le_from_distinct_below}
use Rattle.gh_plenty.proofs.Vocabulary.{AllByRecursion, cases_lt, IsDistinct, list_any}

module _ (Has : (i v : ℕ) → Type 0) (bound : ℕ) where
  -- one of these has this number
  record Found (n v : ℕ) : Type 0 where
    i : ℕ
    among : i < n
    below : v < bound
    has : Has i v

  abbrev Each : ℕ → Type 0
  Each n = (i : ℕ) → i < n → (v : ℕ) × (v < bound) × Has i v

  -- that of the last, and those of the others
  last : (n : ℕ) → Each (suc n) → (v : ℕ) × (v < bound) × Has n v
  last n f = f n (omega arith)

  rest : (n : ℕ) → Each (suc n) → Each n
  rest n f i lt = f i (omega (arith, lt))

  abbrev values : (n : ℕ) → Each n → List ℕ
  values zero f = []
  values (suc n) f = (last n f).0 ∷ values n (rest n f)

  many : (n : ℕ) (f : Each n) → length (values n f) ≡ n
  many zero f = refl
  many (suc n) f = ap suc (many n (rest n f))

  older : (n v : ℕ) → Found n v → Found (suc n) v
  older n v x = let lt = x.among in record { i = x.i; among = omega (arith, lt); below = x.below; has = x.has }

  newest : (n v : ℕ) (f : Each (suc n)) → eqb v (last n f).0 ≡ true → Found (suc n) v
  newest n v f same =
      let is : v ≡ (last n f).0 = eqb-true _ _ same in
      record { i = n; among = omega arith; below = subst (λ (x : ℕ). x < bound) (sym is) (last n f).1; has = subst (Has n) (sym is) (last n f).2 }

  either : (n v : ℕ) (f : Each (suc n)) (b : Bool) → eqb v (last n f).0 ≡ b → (list_any (eqb v) (values n (rest n f)) ≡ true → Found n v) → (b || list_any (eqb v) (values n (rest n f))) ≡ true → Found (suc n) v
  either n v f true same by h = newest n v f same
  either n v f false same by h = older n v (by h)

  found : (n : ℕ) (f : Each n) (v : ℕ) → list_any (eqb v) (values n f) ≡ true → Found n v
  found zero f v e = absurd (cc)
  found (suc n) f v e = either n v f (eqb v (last n f).0) refl (found n (rest n f) v) e

  module _ (one : (i j v : ℕ) → Has i v → Has j v → i ≡ j) where
    differs : (k n v : ℕ) (f : Each (suc n)) (b : Bool) → n < k → Has k v → eqb v (last n f).0 ≡ b → b ≡ false
    differs k n v f false lt has e = refl
    differs k n v f true lt has e =
        let is : v ≡ (last n f).0 = eqb-true _ _ e in
        let same : k ≡ n = one k n v has (subst (Has n) (sym is) (last n f).2) in absurd (omega (arith, same, lt))

    others : (k n : ℕ) (f : Each n) (v : ℕ) → n ≤ k → Has k v → AllByRecursion (λ y. eqb v y ≡ false) (values n f)
    others k zero f v le has = tt
    others k (suc n) f v le has = (differs k n v f (eqb v (last n f).0) (omega (arith, le)) has refl, others k n (rest n f) v (omega (arith, le)) has)

    distinct : (n : ℕ) (f : Each n) → IsDistinct eqb (values n f)
    unfolding IsDistinct
    distinct zero f = tt
    distinct (suc n) f = (others n n (rest n f) (last n f).0 (omega arith) (last n f).2, distinct n (rest n f))

    no_more : (n : ℕ) → Each n → n ≤ bound
    no_more n f = subst (λ (x : ℕ). x ≤ bound) (many n f) (length-le_from_distinct_below (values n f) bound (distinct n f) (λ v e. (found n f v e).below))

-- each pair of a number below rows and one below columns has a number below the bound, and no other pair has that
pub record HaveTheirOwn (rows columns bound : ℕ) (Has : (q i v : ℕ) → Type 0) : Type 0 where
  pub some : 0 < columns
  pub each : (q i : ℕ) → q < rows → i < columns → (v : ℕ) × (v < bound) × Has q i v
  pub row : (q i p j v : ℕ) → i < columns → j < columns → Has q i v → Has p j v → q ≡ p
  pub column : (q i p j v : ℕ) → i < columns → j < columns → Has q i v → Has p j v → i ≡ j

pub no_more_pairs : (rows columns bound : ℕ) (Has : (q i v : ℕ) → Type 0) → HaveTheirOwn rows columns bound Has → rows * columns ≤ bound
no_more_pairs rows columns bound Has h = no_more (λ k v. Has (k / columns) (k % columns) v) bound one (rows * columns) each where
  some : 0 < columns
  some = h.some

  column : (k : ℕ) → k % columns < columns
  column k = omega (arith, some)

  whole : (k : ℕ) → columns * (k / columns) + k % columns ≡ k
  whole k = omega (arith, some)

  one : (i j v : ℕ) → Has (i / columns) (i % columns) v → Has (j / columns) (j % columns) v → i ≡ j
  one i j v a b =
      let row : columns * (i / columns) ≡ columns * (j / columns) = ap (λ (x : ℕ). columns * x) (h.row _ _ _ _ v (column i) (column j) a b) in
      let rest : i % columns ≡ j % columns = h.column _ _ _ _ v (column i) (column j) a b in
      let x = whole i in let y = whole j in omega (arith, row, rest, x, y)

  below : (k : ℕ) → k < rows * columns → k / columns < rows
  below k lt = elim (cases_lt (k / columns) rows) [
    | inl y ↦ y
    | inr le ↦ absurd (let much : columns * rows ≤ columns * (k / columns) = mul-le-mul_left columns le in let x = whole k in let turned : rows * columns ≡ columns * rows = mul_comm rows columns in omega (arith, lt, much, x, turned))
  ]

  each : (k : ℕ) → k < rows * columns → (v : ℕ) × (v < bound) × Has (k / columns) (k % columns) v
  each k lt = h.each (k / columns) (k % columns) (below k lt) (column k)
