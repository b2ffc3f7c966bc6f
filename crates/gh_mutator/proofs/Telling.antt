-- A machine that is told words, from its first word or to its last.
use Rattle.std.proofs.Common.{◌≡◌, ℕ, zero, suc, ◌≤◌, Bool, true, false, eqb, refl, ap, arith}
use Rattle.std.proofs.lemmas.Bool.{eqb-true}
use Rattle.gh_mutator.proofs.Vocabulary.{nat_tests}
use Rattle.gh_base.specs.Routines.{Listing, told}

-- the first word is told first
pub told_first : {M Out : Type 0} (r : Listing M Out) (m : M) (found : ℕ → ℕ) (n : ℕ) → told r m found (suc n) ≡ told r (r.goes m (found 0)) (λ i. found (suc i)) n
told_first r m found zero = refl
told_first r m found (suc n) = ap (λ x. r.goes x (found (suc n))) (told_first r m found n)

-- what holds only where it held before holds from the beginning on
pub held_before : {M Out : Type 0} (P : M → Bool) (r : Listing M Out) (m : M) (found : ℕ → ℕ) → ((x : M) (word : ℕ) → P (r.goes x word) ≡ true → P x ≡ true) → (n : ℕ) → P (told r m found n) ≡ true → (i : ℕ) → i ≤ n → P (told r m found i) ≡ true
held_before P r m found back zero here zero h = here
held_before P r m found back zero here (suc i) h = absurd (omega arith)
held_before P r m found back (suc n) here i h = by (eqb i (suc n)) refl (held_before P r m found back n (back (told r m found n) (found n) here) i) where
  by : (b : Bool) → eqb i (suc n) ≡ b → (i ≤ n → P (told r m found i) ≡ true) → P (told r m found i) ≡ true
  by true e before = let is : i ≡ suc n = eqb-true i (suc n) e in rw is here
  by false e before = before (grind (arith, nat_tests))
