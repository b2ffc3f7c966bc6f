-- Sums of which one term changes, and how great they can be.
use Rattle.std.proofs.Common.{◌≡◌, ◌≢◌, ℕ, zero, suc, ◌+◌, ◌*◌, ◌^◌, ◌<◌, ◌≤◌, Bool, true, false, cond, refl, sym, ap, ◌∙◌, arith, inl, inr, count_ones}
use Rattle.std.proofs.lemmas.Nat.{mul-le}
use Rattle.gh_sweep.proofs.Vocabulary.{Due, eqb_tells, left_uncut, ones-le, owed, placed, placed_behind, placed_in, Row, sum_below, update, with_word}
use Rattle.gh_sweep.proofs.Bits.{sum_more, sum_none, sum_same}

-- an entry of a row of which one changed

pub at_entry : {A : Type 0} (f : ℕ → A) (p : ℕ) (x : A) → update f p x p ≡ x
at_entry f p x = elim (eqb_tells p p) [ inl y ↦ rw (y.0) refl | inr n ↦ absurd (n.1 refl) ]

pub off_entry : {A : Type 0} (f : ℕ → A) (p q : ℕ) (x : A) → p ≢ q → update f p x q ≡ f q
off_entry f p q x ne = elim (eqb_tells p q) [ inl y ↦ absurd (ne y.1) | inr n ↦ rw (n.0) refl ]

-- g is f, but at p
pub sum_at : (f g : ℕ → ℕ) (p n : ℕ) → p < n → ((q : ℕ) → q ≢ p → g q ≡ f q) → sum_below g n + f p ≡ sum_below f n + g p
sum_at f g p zero l h = absurd (omega arith)
sum_at f g p (suc n) l h = elim (eqb_tells p n) [
  | inl y ↦
      let e : sum_below g n ≡ sum_below f n = sum_same g f n (λ q m. h q (omega (arith, m, y.1))) in
      let at : g n ≡ g p = ap g (sym y.1) in
      let was : f n ≡ f p = ap f (sym y.1) in
      omega (arith, e, at, was, sum_more f n, sum_more g n)
  | inr x ↦
      let e : sum_below g n + f p ≡ sum_below f n + g p = sum_at f g p n (omega (arith, l, x.1)) h in
      omega (arith, e, h n (λ w. x.1 (sym w)), sum_more f n, sum_more g n)
]

pub sum_zero : (f : ℕ → ℕ) (n : ℕ) → ((q : ℕ) → q < n → f q ≡ 0) → sum_below f n ≡ 0
sum_zero f zero h = sum_none f
sum_zero f (suc n) h =
    let e : sum_below f n ≡ 0 = sum_zero f n (λ q l. h q (omega arith)) in
    omega (arith, e, h n (omega arith), sum_more f n)

pub sum_least : (f g : ℕ → ℕ) (n : ℕ) → ((q : ℕ) → f q ≤ g q) → sum_below f n ≤ sum_below g n
sum_least f g zero h = omega (arith, sum_none f, sum_none g)
sum_least f g (suc n) h =
    let e : sum_below f n ≤ sum_below g n = sum_least f g n h in
    omega (arith, e, h n, sum_more f n, sum_more g n)

pub sum_few : (f : ℕ → ℕ) (most n : ℕ) → ((q : ℕ) → f q ≤ most) → sum_below f n ≤ most * n
sum_few f most zero h = omega (arith, sum_none f)
sum_few f most (suc n) h =
    let e : sum_below f n ≤ most * n = sum_few f most n h in
    let more : most * suc n ≡ most * n + most = grind arith in
    omega (arith, e, h n, more, sum_more f n)

-- what an actor has to tell changes
pub owed_at : (part : Due → ℕ) (due : ℕ → Due) (a n : ℕ) (d : Due) → a < n → owed part (update due a d) n + part (due a) ≡ owed part due n + part d
owed_at part due a n d l =
    let e : owed part (update due a d) n + part (due a) ≡ owed part due n + part (update due a d a) = sum_at (λ b. part (due b)) (λ b. part (update due a d b)) a n l (λ q ne. ap part (off_entry due a q d (λ y. ne (sym y)))) in
    let at : part (update due a d a) ≡ part d = ap part (at_entry due a d) in
    omega (arith, e, at)

-- one word more is cut
pub left_at : (each : ℕ → ℕ) (cut : ℕ → Bool) (i n : ℕ) → i < n → cut i ≡ false → left_uncut each (update cut i true) n + each i ≡ left_uncut each cut n
left_at each cut i n l un =
    let e : left_uncut each (update cut i true) n + cond (cut i) 0 (each i) ≡ left_uncut each cut n + cond (update cut i true i) 0 (each i) = sum_at (λ j. cond (cut j) 0 (each j)) (λ j. cond (update cut i true j) 0 (each j)) i n l (λ q ne. ap (λ (b : Bool). cond b 0 (each q)) (off_entry cut i q true (λ y. ne (sym y)))) in
    let was : cond (cut i) 0 (each i) ≡ each i = ap (λ (b : Bool). cond b 0 (each i)) un in
    let is : cond (update cut i true i) 0 (each i) ≡ 0 = ap (λ (b : Bool). cond b 0 (each i)) (at_entry cut i true) in
    omega (arith, e, was, is)

-- where only words without anything are cut all is left
pub left_all : (each : ℕ → ℕ) (cut : ℕ → Bool) (n : ℕ) → ((i : ℕ) → cut i ≡ true → each i ≡ 0) → left_uncut each cut n ≡ sum_below each n
left_all each cut n h = grind arith

-- one word of alloc bits changes
module _ (alloc slot : Row) (i word n : ℕ) (l : i < n) where
  there : placed_in (with_word alloc i word) slot i ≡ count_ones word * slot i
  there = ap (λ (w : ℕ). count_ones w * slot i) (at_entry alloc i word)

  elsewhere : (q : ℕ) → q ≢ i → placed_in (with_word alloc i word) slot q ≡ placed_in alloc slot q
  elsewhere q ne = ap (λ (w : ℕ). count_ones w * slot q) (off_entry alloc i q word (λ y. ne (sym y)))

  pub placed_at : placed (with_word alloc i word) slot n + placed_in alloc slot i ≡ placed alloc slot n + count_ones word * slot i
  placed_at =
      let e : placed (with_word alloc i word) slot n + placed_in alloc slot i ≡ placed alloc slot n + placed_in (with_word alloc i word) slot i = sum_at (placed_in alloc slot) (placed_in (with_word alloc i word) slot) i n l elsewhere in
      omega (arith, e, there)

  -- a word that is cut, or is cut by this
  pub behind_at : (cut : ℕ → Bool) → placed_behind (with_word alloc i word) slot (update cut i true) n + cond (cut i) (placed_in alloc slot i) 0 ≡ placed_behind alloc slot cut n + count_ones word * slot i
  behind_at cut =
      let e : placed_behind (with_word alloc i word) slot (update cut i true) n + cond (cut i) (placed_in alloc slot i) 0 ≡ placed_behind alloc slot cut n + cond (update cut i true i) (placed_in (with_word alloc i word) slot i) 0 =
      sum_at (λ j. cond (cut j) (placed_in alloc slot j) 0) (λ j. cond (update cut i true j) (placed_in (with_word alloc i word) slot j) 0) i n l (λ q ne. ap (λ (b : Bool). cond b (placed_in (with_word alloc i word) slot q) 0) (off_entry cut i q true (λ y. ne (sym y))) ∙ ap (λ (w : ℕ). cond (cut q) w 0) (elsewhere q ne)) in
      let is : cond (update cut i true i) (placed_in (with_word alloc i word) slot i) 0 ≡ placed_in (with_word alloc i word) slot i = ap (λ (b : Bool). cond b (placed_in (with_word alloc i word) slot i) 0) (at_entry cut i true) in
      omega (arith, e, is, there)

  pub behind_cut_at : (cut : ℕ → Bool) → cut i ≡ true → placed_behind (with_word alloc i word) slot cut n + placed_in alloc slot i ≡ placed_behind alloc slot cut n + count_ones word * slot i
  behind_cut_at cut is_cut =
      let e : placed_behind (with_word alloc i word) slot cut n + cond (cut i) (placed_in alloc slot i) 0 ≡ placed_behind alloc slot cut n + cond (cut i) (placed_in (with_word alloc i word) slot i) 0 =
      sum_at (λ j. cond (cut j) (placed_in alloc slot j) 0) (λ j. cond (cut j) (placed_in (with_word alloc i word) slot j) 0) i n l (λ q ne. ap (λ (w : ℕ). cond (cut q) w 0) (elsewhere q ne)) in
      let was : cond (cut i) (placed_in alloc slot i) 0 ≡ placed_in alloc slot i = ap (λ (b : Bool). cond b (placed_in alloc slot i) 0) is_cut in
      let is : cond (cut i) (placed_in (with_word alloc i word) slot i) 0 ≡ placed_in (with_word alloc i word) slot i = ap (λ (b : Bool). cond b (placed_in (with_word alloc i word) slot i) 0) is_cut in
      omega (arith, e, was, is, there)

-- How great the counts can be.

pub bytes_few : (word bytes : ℕ) → word < 2 ^ 64 → bytes ≤ 2 ^ 26 → count_ones word * bytes ≤ 2 ^ 32
bytes_few word bytes fits few =
    let ones : count_ones word ≤ 64 = ones-le 64 word fits in
    let most : count_ones word * bytes ≤ 64 * 2 ^ 26 = mul-le (count_ones word) bytes 64 (2 ^ 26) ones few in
    omega (arith, most)
