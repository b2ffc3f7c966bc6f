-- Sums of the first numbers.
use Rattle.std.proofs.Common.{◌≡◌, ◌≢◌, ℕ, zero, suc, ◌+◌, ◌<◌, ◌≤◌, ◌==◌, Bool, true, false, refl, ap, arith}
use Rattle.gh_lists.specs.Vocabulary.{nat_tests}
use Rattle.gh_lists.specs.Wants.{total}

pub total_same : (f g : ℕ → ℕ) (n : ℕ) → ((i : ℕ) → i < n → g i ≡ f i) → total g n ≡ total f n
total_same f g zero h = refl
total_same f g (suc n) h = let rest = total_same f g n (λ i m. h i (omega (arith, m))) in let last = h n (omega arith) in omega (arith, rest, last)

pub total_below : (f g : ℕ → ℕ) (n : ℕ) → ((i : ℕ) → i < n → f i ≤ g i) → total f n ≤ total g n
total_below f g zero h = omega arith
total_below f g (suc n) h = let rest = total_below f g n (λ i m. h i (omega (arith, m))) in let last = h n (omega arith) in omega (arith, rest, last)

pub total_none : (f : ℕ → ℕ) (n : ℕ) → ((i : ℕ) → i < n → f i ≡ 0) → total f n ≡ 0
total_none f zero h = refl
total_none f (suc n) h = let rest = total_none f n (λ i m. h i (omega (arith, m))) in let last = h n (omega arith) in omega (arith, rest, last)

-- none is more than all
pub total_has : (f : ℕ → ℕ) (n p : ℕ) → p < n → f p ≤ total f n
total_has f zero p m = absurd (omega (arith, m))
total_has f (suc n) p m = go (n == p) refl (λ x. total_has f n p x) where
  go : (b : Bool) → (n == p) ≡ b → (p < n → f p ≤ total f n) → f p ≤ total f (suc n)
  go b e before = grind arith

-- they differ at one place alone
pub total_at : (f g : ℕ → ℕ) (n p : ℕ) → p < n → ((i : ℕ) → i < n → i ≢ p → g i ≡ f i) → total g n + f p ≡ total f n + g p
total_at f g zero p m h = absurd (omega (arith, m))
total_at f g (suc n) p m h = go (n == p) refl (λ x. total_at f g n p x (λ i y z. h i (omega (arith, y)) z)) where
  go : (b : Bool) → (n == p) ≡ b → (p < n → total g n + f p ≡ total f n + g p) → total g (suc n) + f p ≡ total f (suc n) + g p
  go true e before =
      let is : n ≡ p = grind (arith, nat_tests, e) in
      let rest : total g n ≡ total f n = total_same f g n (λ i x. h i (omega (arith, x)) (λ y. omega (arith, x, y, is))) in
      let one : f n ≡ f p = ap f is in
      let other : g n ≡ g p = ap g is in
      omega (arith, rest, one, other)
  go false e before =
      let differs : n ≢ p = grind (arith, nat_tests, e) in
      let rest : total g n + f p ≡ total f n + g p = before (omega (arith, m, differs)) in
      let last : g n ≡ f n = h n (omega arith) differs in
      omega (arith, rest, last)
