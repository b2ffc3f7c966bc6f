-- The steps of a routine, the first of them apart.
use Rattle.std.proofs.Common.{◌≡◌, ℕ, zero, suc, ◌+◌, refl, ap, ◌∙◌, arith}
use Rattle.gh_base.specs.Routines.{Alone, alone, IsFolded, Listing, steps_alone, told}

module _ {M Out : Type 0} (r : Listing M Out) where
  told_first : (m : M) (found : ℕ → ℕ) (n : ℕ) → told r m found (suc n) ≡ told r (r.goes m (found 0)) (λ i. found (suc i)) n
  told_first m found zero = refl
  told_first m found (suc n) = ap (λ (s : M). r.goes s (found (suc n))) (told_first m found n)

  alone_first : (s : Alone M) (n : ℕ) → alone r s (suc n) ≡ alone r (steps_alone r s) n
  alone_first s zero = refl
  alone_first s (suc n) = ap (steps_alone r) (alone_first s n)

  told_behind : (m : M) (found : ℕ → ℕ) (before n : ℕ) → told r m found (before + n) ≡ told r (told r m found before) (λ i. found (before + i)) n
  told_behind m found before zero = ap (told r m found) (omega arith)
  told_behind m found before (suc n) =
      let next : before + suc n ≡ suc (before + n) = omega arith in
      ap (told r m found) next ∙ ap (λ (s : M). r.goes s (found (before + n))) (told_behind m found before n)

  alone_behind : (s : Alone M) (before n : ℕ) → alone r s (before + n) ≡ alone r (alone r s before) n
  alone_behind s before zero = ap (alone r s) (omega arith)
  alone_behind s before (suc n) =
      let next : before + suc n ≡ suc (before + n) = omega arith in
      ap (alone r s) next ∙ ap (steps_alone r) (alone_behind s before n)

  pub folded : IsFolded r
  folded = grind (arith, alone_behind, alone_first, told_behind, told_first)
