-- What holds of each element of a list by its place.
use Rattle.std.proofs.Common.{◌≡◌, ℕ, zero, suc, ◌+◌, ◌<◌, List, [], ◌∷◌, ◌++◌, length, Some, refl, ap, subst, arith, slice_get}
use Rattle.gh_run.proofs.Vocabulary.{AllHaveRun, EachFrom}

module _ {X : Type 0} (P : ℕ → X → Type 0) where
  at_place : (i j : ℕ) (x : X) → i ≡ j → P i x → P j x
  at_place i j x e p = subst (λ (k : ℕ). P k x) e p

  pub each_push : (n : ℕ) (xs : List X) (x : X) → EachFrom P n xs → P (n + length xs) x → EachFrom P n (xs ++ x ∷ [])
  each_push n [] x all p = (at_place (n + 0) n x (omega arith) p, tt)
  each_push n (y ∷ xs) x all p = (all.0, each_push (suc n) xs x all.1 (at_place (n + suc (length xs)) (suc n + length xs) x (omega arith) p))

  pub each_at : (n i : ℕ) (xs : List X) (x : X) → EachFrom P n xs → slice_get xs i ≡ Some x → P (n + i) x
  each_at n i [] x all at = absurd cc
  each_at n zero (y ∷ xs) x all at = let same : y ≡ x = cc in at_place n (n + 0) x (omega arith) (subst (P n) same all.0)
  each_at n (suc i) (y ∷ xs) x all at = at_place (suc n + i) (n + suc i) x (omega arith) (each_at (suc n) i xs x all.1 at)

  pub each_first : (i : ℕ) (xs : List X) (x : X) → EachFrom P 0 xs → slice_get xs i ≡ Some x → P i x
  each_first i xs x all at = at_place (0 + i) i x (omega arith) (each_at 0 i xs x all at)

  pub each_of : (n : ℕ) (xs : List X) → ((i : ℕ) (x : X) → slice_get xs i ≡ Some x → P (n + i) x) → EachFrom P n xs
  each_of n [] h = tt
  each_of n (x ∷ xs) h = (at_place (n + 0) n x (omega arith) (h zero x refl), each_of (suc n) xs (λ i y at. at_place (n + suc i) (suc n + i) y (omega arith) (h (suc i) y at)))

  pub each_rest : (n : ℕ) (x : X) (xs ys : List X) → ys ≡ x ∷ xs → EachFrom P n ys → P n x × EachFrom P (suc n) xs
  each_rest n x xs ys is all = subst (EachFrom P n) is all

pub there : {X : Type 0} (xs : List X) (i : ℕ) → i < length xs → (x : X) × (slice_get xs i ≡ Some x)
there [] i lt = absurd (omega (arith, lt))
there (x ∷ xs) zero lt = (x, refl)
there (x ∷ xs) (suc i) lt = there xs i (omega (arith, lt))

module _ {J W : Type 0} (ended : J → Type 0) (which : J → W) where
  -- what holds of each job at its end, where so much holds of each at its start
  pub ran_each : (P Q : ℕ → J → Type 0) → ((a : ℕ) (was now : J) → P a was → ended now → which now ≡ which was → Q a now) → (n : ℕ) (jobs done : List J) → EachFrom P n jobs → AllHaveRun ended which jobs done → EachFrom Q n done
  ran_each P Q gives n [] [] all ran = tt
  ran_each P Q gives n [] (now ∷ done) all ran = absurd ran
  ran_each P Q gives n (was ∷ jobs) [] all ran = absurd ran
  ran_each P Q gives n (was ∷ jobs) (now ∷ done) all ran = (gives n was now all.0 ran.0.at_end ran.0.same, ran_each P Q gives (suc n) jobs done all.1 ran.1)

  pub as_many : (jobs done : List J) → AllHaveRun ended which jobs done → length done ≡ length jobs
  as_many [] [] ran = refl
  as_many [] (now ∷ done) ran = absurd ran
  as_many (was ∷ jobs) [] ran = absurd ran
  as_many (was ∷ jobs) (now ∷ done) ran = ap suc (as_many jobs done ran.1)

pub none_left : {X : Type 0} (xs : List X) → length xs ≡ 0 → xs ≡ []
none_left [] e = refl
none_left (x ∷ xs) e = absurd (omega (arith, e))
