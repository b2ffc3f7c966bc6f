-- Lists to which one more is added.
use Rattle.std.proofs.Common.{◌≡◌, ℕ, zero, suc, List, [], ◌∷◌, ◌++◌, length, subst, Some, slice_get}

-- what holds of each of these, and of one more behind them, holds of each then
pub each_more : {A : Type 0} (Q : ℕ → A → Type 0) (xs : List A) (y : A) → ((i : ℕ) (x : A) → slice_get xs i ≡ Some x → Q i x) → Q (length xs) y → (i : ℕ) (x : A) → slice_get (xs ++ y ∷ []) i ≡ Some x → Q i x
each_more Q [] y each new zero x e = let same : y ≡ x = cc in subst (Q 0) same new
each_more Q [] y each new (suc i) x e = absurd (cc)
each_more Q (z ∷ xs) y each new zero x e = each zero x e
each_more {A} Q (z ∷ xs) y each new (suc i) x e = each_more (λ (j : ℕ) (w : A). Q (suc j) w) xs y (λ j w. each (suc j) w) new i x e
