-- Sums of what a function gives below a number.
use Rattle.std.proofs.Common.{◌≡◌, ℕ, zero, suc, ◌+◌, ◌*◌, ◌<◌, refl, sym, ap, ◌∙◌, arith}
use Rattle.gh_sweep.specs.Bits.{sum_below}

pub sum_more : (f : ℕ → ℕ) (n : ℕ) → sum_below f (suc n) ≡ sum_below f n + f n
unfolding sum_below
sum_more f n = refl

pub sum_none : (f : ℕ → ℕ) → sum_below f 0 ≡ 0
unfolding sum_below
sum_none f = refl

pub sum_same : (f g : ℕ → ℕ) (n : ℕ) → ((q : ℕ) → q < n → f q ≡ g q) → sum_below f n ≡ sum_below g n
sum_same f g zero h = sum_none f ∙ sym (sum_none g)
sum_same f g (suc n) h =
    let e : sum_below f n ≡ sum_below g n = sum_same f g n (λ q l. h q (omega (arith, l))) in
    let last = h n (omega arith) in
    omega (arith, e, last, sum_more f n, sum_more g n)

sum_behind : (f : ℕ → ℕ) (m n : ℕ) → sum_below f (m + n) ≡ sum_below f m + sum_below (λ i. f (m + i)) n
sum_behind f m zero = let e : sum_below f (m + 0) ≡ sum_below f m = ap (sum_below f) (omega arith) in omega (arith, e, sum_none (λ i. f (m + i)))
sum_behind f m (suc n) =
    let e : sum_below f (m + n) ≡ sum_below f m + sum_below (λ i. f (m + i)) n = sum_behind f m n in
    let s : sum_below f (m + suc n) ≡ sum_below f (suc (m + n)) = ap (sum_below f) (omega arith) in
    omega (arith, e, s, sum_more f (m + n), sum_more (λ i. f (m + i)) n)

-- 64 by 64
pub by_words : (f g : ℕ → ℕ) (n : ℕ) → ((i : ℕ) → i < n → g i ≡ sum_below (λ j. f (64 * i + j)) 64) → sum_below g n ≡ sum_below f (64 * n)
by_words f g zero h = sum_none g ∙ sym (sum_none f)
by_words f g (suc n) h =
    let rest : sum_below g n ≡ sum_below f (64 * n) = by_words f g n (λ i lt. h i (omega (arith, lt))) in
    let last : g n ≡ sum_below (λ j. f (64 * n + j)) 64 = h n (omega arith) in
    let s : sum_below f (64 * suc n) ≡ sum_below f (64 * n + 64) = ap (sum_below f) (omega arith) in
    omega (arith, rest, last, s, sum_more g n, sum_behind f (64 * n) 64)

pub sum_times : (f : ℕ → ℕ) (k n : ℕ) → sum_below f n * k ≡ sum_below (λ q. f q * k) n
sum_times f k zero = ap (λ (x : ℕ). x * k) (sum_none f) ∙ none ∙ sym (sum_none (λ q. f q * k)) where
  none : 0 * k ≡ 0
  none = grind arith
sum_times f k (suc n) = ap (λ (x : ℕ). x * k) (sum_more f n) ∙ times (sum_below f n) (f n) k ∙ ap (λ (x : ℕ). x + f n * k) (sum_times f k n) ∙ sym (sum_more (λ q. f q * k) n) where
  times : (a b k : ℕ) → (a + b) * k ≡ a * k + b * k
  times a b k = grind arith
