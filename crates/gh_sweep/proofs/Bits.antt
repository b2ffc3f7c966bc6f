-- Sums, and the count of a word's set bits as the sum of its bits.
use Rattle.std.proofs.Common.{ap, ◌-◌, ◌≡◌, ℕ, suc, zero, ◌+◌, ◌/◌, ◌%◌, ◌^◌, ◌<◌, ◌≤◌, arith, refl, sym, ◌∙◌, eqb, bit_and, count_ones, min, ◌&&◌, not}
use Rattle.std.specs.Int.Count.{ones_step}
use Rattle.gh_sweep.proofs.Vocabulary.{and_le_l, bit, bit_at, bit_at-lt, bit_at-suc, bit_at_and, bit_at_lowest, bit_at_not, BitsAreKeptOrFreed, freed_in, kept_in, ones_le_self, SetBitsAreCounted, sum_below, w64}

pub sum_none : (f : ℕ → ℕ) → sum_below f 0 ≡ 0
unfolding sum_below
sum_none f = refl

pub sum_more : (f : ℕ → ℕ) (n : ℕ) → sum_below f (suc n) ≡ sum_below f n + f n
unfolding sum_below
sum_more f n = refl

pub sum_same : (f g : ℕ → ℕ) (n : ℕ) → ((q : ℕ) → q < n → f q ≡ g q) → sum_below f n ≡ sum_below g n
sum_same f g zero h = sum_none f ∙ sym (sum_none g)
sum_same f g (suc n) h =
    let e : sum_below f n ≡ sum_below g n = sum_same f g n (λ q l. h q (omega (arith, l))) in
    omega (arith, e, h n (omega arith), sum_more f n, sum_more g n)

-- the first term, and the others
pub sum_first : (f : ℕ → ℕ) (n : ℕ) → sum_below f (suc n) ≡ f 0 + sum_below (λ i. f (suc i)) n
sum_first f zero = omega (arith, sum_more f 0, sum_none f, sum_none (λ i. f (suc i)))
sum_first f (suc n) =
    let e : sum_below f (suc n) ≡ f 0 + sum_below (λ i. f (suc i)) n = sum_first f n in
    omega (arith, e, sum_more f (suc n), sum_more (λ i. f (suc i)) n)

-- so many terms, and then others
pub sum_behind : (f : ℕ → ℕ) (m n : ℕ) → sum_below f (m + n) ≡ sum_below f m + sum_below (λ i. f (m + i)) n
sum_behind f m zero = let same : m + 0 ≡ m = omega arith in rw same (omega (arith, sum_none (λ i. f (m + i))))
sum_behind f m (suc n) =
    let e : sum_below f (m + n) ≡ sum_below f m + sum_below (λ i. f (m + i)) n = sum_behind f m n in
    let same : m + suc n ≡ suc (m + n) = omega arith in
    rw same (omega (arith, e, sum_more f (m + n), sum_more (λ i. f (m + i)) n))

counted : (k n : ℕ) → n < 2 ^ k → count_ones n ≡ sum_below (λ i. bit_at n i) k
counted zero n l = omega (arith, l, ones_le_self n, sum_none (λ i. bit_at n i))
counted (suc k) n l =
    let e : count_ones (n / 2) ≡ sum_below (λ i. bit_at (n / 2) i) k = counted k (n / 2) half in
    let s : sum_below (λ i. bit_at n (suc i)) k ≡ sum_below (λ i. bit_at (n / 2) i) k = sum_same (λ i. bit_at n (suc i)) (λ i. bit_at (n / 2) i) k (λ i m. bit_at-suc n i) in
    let t : sum_below (λ i. bit_at n i) (suc k) ≡ bit_at n 0 + sum_below (λ i. bit_at n (suc i)) k = sum_first (λ i. bit_at n i) k in
    let o : count_ones n ≡ n % 2 + count_ones (n / 2) = ones_step n in
    omega (arith, e, s, t, o, bit_at_lowest n) where
      half : n / 2 < 2 ^ k
      half = grind (arith, l)

pub set_bits : SetBitsAreCounted
set_bits word l = counted 64 word l

-- The bits kept and freed in a word, bit by bit.

both_set : (a b : ℕ) → a < 2 → b < 2 → min a b ≡ bit (eqb a 1 && eqb b 1)
both_set a b h k = grind arith

first_alone_set : (a b : ℕ) → a < 2 → b < 2 → min a (1 - b) ≡ bit (eqb a 1 && not (eqb b 1))
first_alone_set a b h k = grind arith

pub kept_bits : (a m : ℕ) → a < 2 ^ 64 → kept_in a m ≡ sum_below (λ j. bit (eqb (bit_at a j) 1 && eqb (bit_at m j) 1)) 64
kept_bits a m l = set_bits (bit_and a m) (omega (arith, l, and_le_l a m)) ∙ sum_same _ _ 64 (λ j k. bit_at_and a m j ∙ both_set (bit_at a j) (bit_at m j) (bit_at-lt a j) (bit_at-lt m j))

pub freed_bits : (a m : ℕ) → a < 2 ^ 64 → m < 2 ^ 64 → freed_in a m ≡ sum_below (λ j. bit (eqb (bit_at a j) 1 && not (eqb (bit_at m j) 1))) 64
freed_bits a m l s =
    set_bits (bit_and a (2 ^ 64 - 1 - m)) (omega (arith, l, and_le_l a (2 ^ 64 - 1 - m))) ∙ sum_same _ _ 64 (λ j k. bit_at_and a (2 ^ 64 - 1 - m) j ∙ ap (λ (n : ℕ). min (bit_at a j) n) (bit_at_not w64 m j s k) ∙ first_alone_set (bit_at a j) (bit_at m j) (bit_at-lt a j) (bit_at-lt m j))

pub sum_of_two : (f g : ℕ → ℕ) (n : ℕ) → sum_below f n + sum_below g n ≡ sum_below (λ q. f q + g q) n
sum_of_two f g zero = omega (arith, sum_none f, sum_none g, sum_none (λ q. f q + g q))
sum_of_two f g (suc n) =
    let e : sum_below f n + sum_below g n ≡ sum_below (λ q. f q + g q) n = sum_of_two f g n in
    omega (arith, e, sum_more f n, sum_more g n, sum_more (λ q. f q + g q) n)

one_of_both : (a b : ℕ) → a < 2 → b < 2 → bit (eqb a 1 && eqb b 1) + bit (eqb a 1 && not (eqb b 1)) ≡ a
one_of_both a b h k = grind arith

pub kept_or_freed : BitsAreKeptOrFreed
kept_or_freed a m l s =
    let k = kept_bits a m l in
    let f = freed_bits a m l s in
    let two = sum_of_two (λ j. bit (eqb (bit_at a j) 1 && eqb (bit_at m j) 1)) (λ j. bit (eqb (bit_at a j) 1 && not (eqb (bit_at m j) 1))) 64 in
    let all = sum_same (λ j. bit (eqb (bit_at a j) 1 && eqb (bit_at m j) 1) + bit (eqb (bit_at a j) 1 && not (eqb (bit_at m j) 1))) (λ j. bit_at a j) 64 (λ j lt. one_of_both (bit_at a j) (bit_at m j) (bit_at-lt a j) (bit_at-lt m j)) in
    ap (λ (n : ℕ). n + freed_in a m) k ∙ ap (λ (n : ℕ). sum_below (λ j. bit (eqb (bit_at a j) 1 && eqb (bit_at m j) 1)) 64 + n) f ∙ two ∙ all ∙ sym (set_bits a l)

-- no more of a word's bits are counted than it has
few_bits : (word n : ℕ) → sum_below (λ j. bit_at word j) n ≤ n
few_bits word zero = omega (arith, sum_none (λ j. bit_at word j))
few_bits word (suc n) = omega (arith, few_bits word n, sum_more (λ j. bit_at word j) n, bit_at-lt word n)

pub few_ones : (a b : ℕ) → a < 2 ^ 64 → count_ones (bit_and a b) ≤ 64
few_ones a b fits = omega (arith, set_bits (bit_and a b) (omega (arith, fits, and_le_l a b)), few_bits (bit_and a b) 64)
