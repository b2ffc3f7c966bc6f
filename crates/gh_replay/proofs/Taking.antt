-- The answers of a goroutine that are still to be taken.
use Rattle.std.proofs.Common.{◌≡◌, ℕ, ◌+◌, ◌<◌, Bool, true, false, cond, eqb, List, [], ◌∷◌, ◌++◌, length, drop, get_or, replicate, Some, refl, sym, ap, ◌∙◌, arith, inl, inr, slice_get}
use Rattle.std.proofs.lemmas.Bool.{eq-eqb, eqb-true}
use Rattle.std.proofs.lemmas.List.{get_or-set_other, get_or-set_same}
use Rattle.gh_replay.proofs.Vocabulary.{Answer, answers_by, cases_lt, drop_more, get_or-replicate, get_or_from_slice_get, get_or_past, length-replicate, nat_tests, set, slice_get_within}

module _ (g : ℕ) (xs : List (ℕ × Answer)) (i : ℕ) (x : ℕ × Answer) (is : slice_get xs i ≡ Some x) where
  from_here : drop i xs ≡ x ∷ drop (i + 1) xs
  from_here = drop_more xs i x (slice_get_within xs i x is) ∙ ap (λ (y : ℕ × Answer). y ∷ drop (i + 1) xs) (get_or_from_slice_get xs i x x is)

  -- the answer there is the goroutine's, or another's
  pub next_mine : x.0 ≡ g → answers_by g (drop i xs) ≡ x.1 ∷ answers_by g (drop (i + 1) xs)
  next_mine mine = ap (answers_by g) from_here ∙ ap (λ (b : Bool). cond b (x.1 ∷ []) [] ++ answers_by g (drop (i + 1) xs)) (eq-eqb x.0 g mine)

  pub next_other : (x.0 ≡ g → ⊥) → answers_by g (drop i xs) ≡ answers_by g (drop (i + 1) xs)
  next_other other =
      let apart : eqb x.0 g ≡ false = grind (arith, nat_tests) in
      ap (answers_by g) from_here ∙ ap (λ (b : Bool). cond b (x.1 ∷ []) [] ++ answers_by g (drop (i + 1) xs)) apart

-- at first all are
pub from_first : (n g : ℕ) (xs : List (ℕ × Answer)) → answers_by g (drop (get_or (replicate n 0) g 0) xs) ≡ answers_by g xs
from_first n g xs = ap (λ (k : ℕ). answers_by g (drop k xs)) (elim (cases_lt g n) [
  | inl lt ↦ get_or-replicate n g 0 0 lt
  | inr le ↦ get_or_past (replicate n 0) g 0 (let long = length-replicate {A = ℕ} n 0 in omega (arith, long, le))
])

-- with the goroutine's place moved behind its next answer it has one less, and each other as many as before
pub one_taken : (places : List ℕ) (xs : List (ℕ × Answer)) (g i : ℕ) (x : ℕ × Answer) → g < length places → answers_by g (drop (get_or places g 0) xs) ≡ x.1 ∷ answers_by g (drop (i + 1) xs) → (h : ℕ) →
    answers_by h (drop (get_or (set places g (i + 1)) h 0) xs) ≡ cond (eqb h g) (drop 1 (answers_by h (drop (get_or places h 0) xs))) (answers_by h (drop (get_or places h 0) xs))
one_taken places xs g i x lt next h = go (eqb h g) refl where
  go : (b : Bool) → eqb h g ≡ b → answers_by h (drop (get_or (set places g (i + 1)) h 0) xs) ≡ cond b (drop 1 (answers_by h (drop (get_or places h 0) xs))) (answers_by h (drop (get_or places h 0) xs))
  go true e =
      let same : h ≡ g = eqb-true h g e in
      rw same (ap (λ (k : ℕ). answers_by g (drop k xs)) (get_or-set_same places g (i + 1) 0 lt) ∙ sym (ap (drop 1) next))
  go false e = ap (λ (k : ℕ). answers_by h (drop k xs)) (get_or-set_other places g h (i + 1) 0 (λ same. let no : eqb h g ≡ true = eq-eqb h g same in absurd cc))
