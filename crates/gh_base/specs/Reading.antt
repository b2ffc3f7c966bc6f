-- What is read from a list that was set, or that has one element over and over. The crates above prove by it.
use Rattle.std.specs.Prelude.{◌≡◌, ℕ, zero, suc, List, [], ◌∷◌, slice_index_or, slice_set, replicate, refl}

next-same : (i j : ℕ) → i ≡ j → suc i ≡ suc j
next-same i j e = cc

-- what holds of the element that was set, and of what was read before
pub read_after_set : {A : Type 0} (P : A → Type 0) (xs : List A) (i j : ℕ) (x d : A) → (i ≡ j → P x) → P (slice_index_or xs j d) → P (slice_index_or (slice_set xs i x) j d)
read_after_set P [] i j x d new old = old
read_after_set P (y ∷ ys) zero zero x d new old = new refl
read_after_set P (y ∷ ys) zero (suc j) x d new old = old
read_after_set P (y ∷ ys) (suc i) zero x d new old = old
read_after_set P (y ∷ ys) (suc i) (suc j) x d new old = read_after_set P ys i j x d (λ e. new (next-same i j e)) old

pub read_replicate : {A : Type 0} (n i : ℕ) (x : A) → slice_index_or (replicate n x) i x ≡ x
read_replicate zero i x = refl
read_replicate (suc n) zero x = refl
read_replicate (suc n) (suc i) x = read_replicate n i x

same-front : {A : Type 0} (y : A) (xs ys : List A) → xs ≡ ys → y ∷ xs ≡ y ∷ ys
same-front y xs ys e = cc

-- an element that is set twice is what it was set to last
pub set_twice : {A : Type 0} (xs : List A) (i : ℕ) (x y : A) → slice_set (slice_set xs i x) i y ≡ slice_set xs i y
set_twice [] i x y = refl
set_twice (z ∷ zs) zero x y = refl
set_twice (z ∷ zs) (suc i) x y = same-front z _ _ (set_twice zs i x y)
