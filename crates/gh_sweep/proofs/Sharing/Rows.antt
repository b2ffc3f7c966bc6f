-- A word of alloc bits is cut to its marks, or one bit of it is set: what is said of objects by their bits.
use Rattle.std.proofs.Common.{◌≡◌, ℕ, ◌+◌, ◌/◌, ◌%◌, ◌^◌, ◌<◌, min, Bool, true, false, refl, sym, ap, subst, ◌∙◌, arith, inl, inr, bit_and, bit_or, count_ones}
use Rattle.gh_sweep.proofs.Vocabulary.{and_le_l, AreWords, bit_at, bit_at-lt, bit_at-pow_other, bit_at-pow_same, bit_at_and, bit_at_or, eqb_tells, KnownGood, or_lt, pow_below, Row, row_bit, RowsAreWritten, SinceGood, StandGood, sum_below, UncutGood, update, with_word}
use Rattle.gh_sweep.proofs.Bits.{set_bits}
use Rattle.gh_sweep.proofs.Sharing.Sums.{off_entry, sum_at}

both_bits : (a m i : ℕ) → bit_at a i ≡ 1 → bit_at m i ≡ 1 → bit_at (bit_and a m) i ≡ 1
both_bits a m i e f = let b = bit_at_and a m i in omega (arith, b, e, f)

second_bit : (a m i : ℕ) → bit_at (bit_and a m) i ≡ 1 → bit_at m i ≡ 1
second_bit a m i e = let b : bit_at (bit_and a m) i ≡ min (bit_at a i) (bit_at m i) = bit_at_and a m i in omega (arith, e, b, bit_at-lt a i, bit_at-lt m i)

-- one bit more is set
pub set_one : (word k : ℕ) → word < 2 ^ 64 → k < 64 → bit_at word k ≡ 0 → count_ones (bit_or word (2 ^ k)) ≡ count_ones word + 1
set_one word k l m clear =
    let e : sum_below (λ j. bit_at (bit_or word (2 ^ k)) j) 64 + bit_at word k ≡ sum_below (λ j. bit_at word j) 64 + bit_at (bit_or word (2 ^ k)) k =
    sum_at (λ j. bit_at word j) (λ j. bit_at (bit_or word (2 ^ k)) j) k 64 m (λ q ne. omega (arith, bit_at_or word (2 ^ k) q, bit_at-pow_other k q ne)) in
    let s : bit_at (bit_or word (2 ^ k)) k ≡ 1 = omega (arith, bit_at_or word (2 ^ k) k, clear, bit_at-pow_same k) in
    omega (arith, e, s, clear, set_bits word l, set_bits (bit_or word (2 ^ k)) (or_lt 64 word (2 ^ k) l (pow_below k 64 m)))

pub fits_written : (alloc : Row) (i word : ℕ) → word < 2 ^ 64 → AreWords alloc → AreWords (with_word alloc i word)
fits_written alloc i word l good q = elim (eqb_tells i q) [ inl y ↦ rw (y.0) l | inr n ↦ rw (n.0) (good q) ]

pub uncut_written : (was alloc : Row) (cut then : ℕ → Bool) (i word : ℕ) → then i ≡ true → ((q : ℕ) → then q ≡ false → cut q ≡ false) → UncutGood was alloc cut → UncutGood was (with_word alloc i word) then
uncut_written was alloc cut then i word is before good q e = elim (eqb_tells i q) [
  | inl y ↦ absurd (cc (e, is, y.1))
  | inr n ↦ rw (n.0) (good q (before q e))
]

module _ (rows : RowsAreWritten) (alloc : Row) where
  -- Word i is cut to its marks.
  module _ (was : Row) (i marks : ℕ) (same : marks ≡ was i) where
    abbrev cut_row : Row
    cut_row = with_word alloc i (bit_and (alloc i) marks)

    mark_of : (x : ℕ) → x / 64 ≡ i → row_bit was x ≡ bit_at marks (x % 64)
    mark_of x e = rows.bit_of was i x e ∙ ap (λ (w : ℕ). bit_at w (x % 64)) (sym same)

    pub stand_cut : StandGood was alloc → StandGood was cut_row
    stand_cut good x e = elim (eqb_tells i (x / 64)) [
      | inl y ↦ rows.bit_here alloc i (bit_and (alloc i) marks) x (sym y.1) ∙ both_bits (alloc i) marks (x % 64) (sym (rows.bit_of alloc i x (sym y.1)) ∙ good x e) (sym (mark_of x (sym y.1)) ∙ e)
      | inr n ↦ rows.bit_elsewhere alloc i (bit_and (alloc i) marks) x n.1 ∙ good x e
    ]

    pub since_cut : (cut : ℕ → Bool) (since : ℕ → Bool) → KnownGood was since → SinceGood alloc cut since → SinceGood cut_row (update cut i true) since
    since_cut cut since known good x c e = elim (eqb_tells i (x / 64)) [
      | inl y ↦ known x (mark_of x (sym y.1) ∙ second_bit (alloc i) marks (x % 64) (sym (rows.bit_here alloc i (bit_and (alloc i) marks) x (sym y.1)) ∙ e))
      | inr n ↦ good x (sym (off_entry cut i (x / 64) true n.1) ∙ c) (sym (rows.bit_elsewhere alloc i (bit_and (alloc i) marks) x n.1) ∙ e)
    ]

    pub fits_cut : AreWords alloc → AreWords cut_row
    fits_cut good = fits_written alloc i (bit_and (alloc i) marks) (let l = good i in omega (arith, l, and_le_l (alloc i) marks)) good

  -- The bit of heap word x is set.
  module _ (x : ℕ) where
    abbrev set_row : Row
    set_row = with_word alloc (x / 64) (bit_or (alloc (x / 64)) (2 ^ (x % 64)))

    pub stand_set : (was : Row) → StandGood was alloc → StandGood was set_row
    stand_set was good y e = elim (eqb_tells x y) [
      | inl z ↦ subst (λ (n : ℕ). row_bit set_row n ≡ 1) z.1 (rows.sets_one alloc x)
      | inr n ↦ rows.sets_no_other alloc x y n.1 ∙ good y e
    ]

    pub since_set : (cut : ℕ → Bool) (since : ℕ → Bool) → SinceGood alloc cut since → SinceGood set_row cut (update since x true)
    since_set cut since good y c e = elim (eqb_tells x y) [
      | inl z ↦ rw (z.0) refl
      | inr n ↦ off_entry since x y true n.1 ∙ good y c (sym (rows.sets_no_other alloc x y n.1) ∙ e)
    ]

    pub known_set : (was : Row) (since : ℕ → Bool) → KnownGood was since → KnownGood was (update since x true)
    known_set was since good y e = elim (eqb_tells x y) [
      | inl z ↦ rw (z.0) refl
      | inr n ↦ off_entry since x y true n.1 ∙ good y e
    ]

    place_below : x % 64 < 64
    place_below = omega arith

    pub fits_set : AreWords alloc → AreWords set_row
    fits_set good = fits_written alloc (x / 64) (bit_or (alloc (x / 64)) (2 ^ (x % 64))) (or_lt 64 (alloc (x / 64)) (2 ^ (x % 64)) (good (x / 64)) (pow_below (x % 64) 64 place_below)) good

    pub one_more : AreWords alloc → row_bit alloc x ≡ 0 → count_ones (bit_or (alloc (x / 64)) (2 ^ (x % 64))) ≡ count_ones (alloc (x / 64)) + 1
    one_more good clear = grind (arith, place_below, set_one)
