-- The bits of a slot and of a shape in a word of the bitmap, and what a row is once they are written.
use Rattle.std.proofs.Common.{◌≡◌, ◌≢◌, ℕ, ◌+◌, ◌*◌, ◌/◌, ◌%◌, ◌-◌, ◌^◌, ◌<◌, ◌≤◌, ◌⊎◌, Bool, true, false, cond, eqb, ltb, refl, sym, ap, subst, ◌∙◌, arith, inl, inr, lit<, bit_or, bit_and, min, max}
use Rattle.std.proofs.lemmas.Nat.Bits.{bit_at_or, bit_at_and, bit_at_not, bit_at-lt, bit_at_mask_inside, bit_at_mask_below, bit_at_mask_above, bit_at_cat_low, bit_at_cat_high, bit_at-zero}
use Rattle.std.proofs.lemmas.Nat.{pow_pos, pow-add}
use Rattle.std.proofs.lemmas.Bool.{eqb-true, ltb-true, ltb-false, lt-ltb}
use Rattle.gh_bitmap.proofs.Vocabulary.{bit, bit_at, bits_at, div-add-mod, div-div-eq-div-mul, div-lt_iff_lt-mul, is_pointer, mod-pow-add, mul-div_left, mul-mod_left, nat_tests, pointer_bits, pow-le-pow_right, Row, row_bit, RowsAreWritten, Shape, slot_bits, w64, with_word}

-- The pointer bits of a shape, moved to where the object stands.

-- the low k bits are as they were
low_bits : (x k j : ℕ) → j < k → bit_at (x % 2 ^ k) j ≡ bit_at x j
low_bits x k j lt = sym (ap (λ (n : ℕ). bit_at n j) (whole x (2 ^ k)) ∙ bit_at_cat_low (x / 2 ^ k) k (x % 2 ^ k) j lt) where
  whole : (x m : ℕ) → x ≡ x / m * m + x % m
  whole x m = omega (arith, div-add-mod x m)

-- moved up by s places within 64
moved_up : (x s : ℕ) → s < 64 → x * 2 ^ s % 2 ^ 64 ≡ x % 2 ^ (64 - s) * 2 ^ s
moved_up x s lt =
    let sum : (64 - s) + s ≡ 64 = omega arith in
    let up = mod-pow-add (x * 2 ^ s) (64 - s) s in
    let none : x * 2 ^ s % 2 ^ s ≡ 0 = mul-mod_left x (2 ^ s) in
    let back : x * 2 ^ s / 2 ^ s ≡ x = mul-div_left x (pow_pos s) in
    ap (λ (n : ℕ). x * 2 ^ s % 2 ^ n) (sym sum) ∙ up ∙ ap (λ (n : ℕ). n % 2 ^ (64 - s) * 2 ^ s + x * 2 ^ s % 2 ^ s) back ∙ ap (λ (n : ℕ). x % 2 ^ (64 - s) * 2 ^ s + n) none ∙ omega arith

-- moved down by k places
moved_down : (y k j : ℕ) → bit_at (y / 2 ^ k) j ≡ bit_at y (k + j)
moved_down y k j = ap (λ (n : ℕ). n % 2) (div-div-eq-div-mul y (2 ^ k) (2 ^ j) ∙ ap (λ (n : ℕ). y / n) (sym (pow-add 2 k j)))

down_small : (y s : ℕ) → s < 64 → y < 2 ^ 64 → y / 2 ^ (64 - s) < 2 ^ s
down_small y s lt h =
    let sum : s + (64 - s) ≡ 64 = omega arith in
    let wide : 2 ^ s * 2 ^ (64 - s) ≡ 2 ^ 64 = sym (pow-add 2 s (64 - s)) ∙ ap (λ (n : ℕ). 2 ^ n) sum in
    (div-lt_iff_lt-mul {k = 2 ^ (64 - s)} {x = y} {y = 2 ^ s} (pow_pos (64 - s))).1 (subst (λ (n : ℕ). y < n) (sym wide) h)

-- bit j of x moved up by s places, with the s bits below from z
joined : (x z s j : ℕ) → s < 64 → z < 2 ^ s → j < 64 → ((j < s) × (bit_at (x * 2 ^ s % 2 ^ 64 + z) j ≡ bit_at z j)) ⊎ ((s ≤ j) × (bit_at (x * 2 ^ s % 2 ^ 64 + z) j ≡ bit_at x (j - s)))
joined x z s j lt small h = go (ltb j s) refl where
  go : (b : Bool) → ltb j s ≡ b → ((j < s) × (bit_at (x * 2 ^ s % 2 ^ 64 + z) j ≡ bit_at z j)) ⊎ ((s ≤ j) × (bit_at (x * 2 ^ s % 2 ^ 64 + z) j ≡ bit_at x (j - s)))
  go true e = let l : j < s = ltb-true j s e in inl (l, ap (λ (n : ℕ). bit_at (n + z) j) (moved_up x s lt) ∙ bit_at_cat_low (x % 2 ^ (64 - s)) s z j l)
  go false e =
      let l : s ≤ j = ltb-false j s e in
      inr (l, ap (λ (n : ℕ). bit_at (n + z) j) (moved_up x s lt) ∙ bit_at_cat_high (x % 2 ^ (64 - s)) s z j small l ∙ low_bits x (64 - s) (j - s) (omega arith))

below_small : (shape : Shape) (a i : ℕ) → ((n : ℕ) → bits_at shape n < 2 ^ 64) → cond (ltb (a / 64) i) (bits_at shape (i - a / 64 - 1) / 2 ^ (64 - a % 64)) 0 < 2 ^ (a % 64)
below_small shape a i narrow = go (ltb (a / 64) i) where
  go : (b : Bool) → cond b (bits_at shape (i - a / 64 - 1) / 2 ^ (64 - a % 64)) 0 < 2 ^ (a % 64)
  go true = down_small (bits_at shape (i - a / 64 - 1)) (a % 64) (omega arith) (narrow (i - a / 64 - 1))
  go false = pow_pos (a % 64)

is_pointer_bit : (shape : Shape) (k m n : ℕ) → k / 64 ≡ m → k % 64 ≡ n → bit_at (bits_at shape m) n ≡ bit (is_pointer shape k)
is_pointer_bit shape k m n d r = grind arith

-- at and behind the object's first word its bit is that of the field
pointer_bit : (shape : Shape) (a i x : ℕ) → ((n : ℕ) → bits_at shape n < 2 ^ 64) → x / 64 ≡ i → a ≤ x → bit_at (pointer_bits shape a i) (x % 64) ≡ bit (is_pointer shape (x - a))
pointer_bit shape a i x narrow e low =
    let z = cond (ltb (a / 64) i) (bits_at shape (i - a / 64 - 1) / 2 ^ (64 - a % 64)) 0 in
    elim (joined (bits_at shape (i - a / 64)) z (a % 64) (x % 64) (omega arith) (below_small shape a i narrow) (omega arith)) [
      | inl w ↦
          let j = w.0 in
          let after : a / 64 < i = omega arith in
          let part : z ≡ bits_at shape (i - a / 64 - 1) / 2 ^ (64 - a % 64) = ap (λ (b : Bool). cond b (bits_at shape (i - a / 64 - 1) / 2 ^ (64 - a % 64)) 0) (lt-ltb (a / 64) i after) in
          w.1 ∙ ap (λ (n : ℕ). bit_at n (x % 64)) part ∙ moved_down (bits_at shape (i - a / 64 - 1)) (64 - a % 64) (x % 64) ∙ is_pointer_bit shape (x - a) (i - a / 64 - 1) (64 - a % 64 + x % 64) (omega arith) (omega arith)
      | inr w ↦
          let j = w.0 in
          w.1 ∙ is_pointer_bit shape (x - a) (i - a / 64) (x % 64 - a % 64) (omega arith) (omega arith)
    ]

-- before it none is set
pointer_bit_before : (shape : Shape) (a i x : ℕ) → ((n : ℕ) → bits_at shape n < 2 ^ 64) → x / 64 ≡ i → a / 64 ≤ i → x < a → bit_at (pointer_bits shape a i) (x % 64) ≡ 0
pointer_bit_before shape a i x narrow e low lt = grind (arith, below_small, joined)

-- where the word has no pointer bit, none of its words is a pointer field
pub no_pointers : (shape : Shape) (a i x : ℕ) → ((n : ℕ) → bits_at shape n < 2 ^ 64) → pointer_bits shape a i ≡ 0 → x / 64 ≡ i → a ≤ x → bit (is_pointer shape (x - a)) ≡ 0
no_pointers shape a i x narrow none e low = sym (pointer_bit shape a i x narrow e low) ∙ ap (λ (n : ℕ). bit_at n (x % 64)) none ∙ bit_at-zero (x % 64)

max_zero : (b : ℕ) → max b 0 ≡ b
max_zero b = omega arith

max_left : (b : ℕ) → max 0 b ≡ b
max_left b = omega arith

abbrev low_of : ℕ → ℕ → ℕ
low_of a i = max a (64 * i) - 64 * i

abbrev high_of : ℕ → ℕ → ℕ → ℕ
high_of a slot i = min (a + slot) (64 * i + 64) - 64 * i

narrow : (lo hi : ℕ) → hi ≤ 64 → 2 ^ hi - 2 ^ lo < 2 ^ 64
narrow lo hi h =
    let small : 2 ^ hi ≤ 2 ^ 64 = pow-le-pow_right {n = 2} (lit< tt) h in
    let some : 0 < 2 ^ lo = pow_pos lo in
    omega (arith, small, some)

module _ (rows : RowsAreWritten) where
  -- The bits of a slot in one word are cleared.

  cleared : (row : Row) (a slot i x : ℕ) → x / 64 ≡ i → row_bit (with_word row i (bit_and (row i) (2 ^ 64 - 1 - slot_bits a slot i))) x ≡ min (bit_at (row i) (x % 64)) (1 - bit_at (slot_bits a slot i) (x % 64))
  cleared row a slot i x e =
      let high : high_of a slot i ≤ 64 = omega arith in
      let lt : x % 64 < 64 = omega arith in
      rows.bit_here row i _ x e ∙ bit_at_and (row i) (2 ^ 64 - 1 - slot_bits a slot i) (x % 64) ∙ ap (λ (n : ℕ). min (bit_at (row i) (x % 64)) n) (bit_at_not w64 (slot_bits a slot i) (x % 64) (narrow (low_of a i) (high_of a slot i) high) lt)

  pub clear_slot : (row : Row) (a slot i x : ℕ) → x / 64 ≡ i → a ≤ x → x < a + slot → row_bit (with_word row i (bit_and (row i) (2 ^ 64 - 1 - slot_bits a slot i))) x ≡ 0
  clear_slot row a slot i x e low high =
      cleared row a slot i x e ∙ ap (λ (n : ℕ). min (bit_at (row i) (x % 64)) (1 - n)) (bit_at_mask_inside (low_of a i) (high_of a slot i) (x % 64) (omega arith) (omega arith)) ∙ omega arith

  pub clear_slot_other : (row : Row) (a slot i x : ℕ) → (x < a) ⊎ (a + slot ≤ x) → row_bit (with_word row i (bit_and (row i) (2 ^ 64 - 1 - slot_bits a slot i))) x ≡ row_bit row x
  clear_slot_other row a slot i x out = go (eqb i (x / 64)) refl where
    keep : (b : ℕ) → b < 2 → min b (1 - 0) ≡ b
    keep b h = omega arith

    outside : x / 64 ≡ i → (x < a) ⊎ (a + slot ≤ x) → bit_at (slot_bits a slot i) (x % 64) ≡ 0
    outside e (inl l) = bit_at_mask_below (low_of a i) (high_of a slot i) (x % 64) (omega arith)
    outside e (inr h) = bit_at_mask_above (low_of a i) (high_of a slot i) (x % 64) (omega arith)

    go : (b : Bool) → eqb i (x / 64) ≡ b → row_bit (with_word row i (bit_and (row i) (2 ^ 64 - 1 - slot_bits a slot i))) x ≡ row_bit row x
    go true e =
        let same : x / 64 ≡ i = sym (eqb-true _ _ e) in
        cleared row a slot i x same ∙ ap (λ (n : ℕ). min (bit_at (row i) (x % 64)) (1 - n)) (outside same out) ∙ keep (bit_at (row i) (x % 64)) (bit_at-lt (row i) (x % 64)) ∙ sym (rows.bit_of row i x same)
    go false e = let apart : i ≢ x / 64 = grind (arith, nat_tests) in rows.bit_elsewhere row i _ x apart

  -- The pointer bits are set.

  pointers_set : (row : Row) (shape : Shape) (a i x : ℕ) → x / 64 ≡ i → row_bit (with_word row i (bit_or (row i) (pointer_bits shape a i))) x ≡ max (bit_at (row i) (x % 64)) (bit_at (pointer_bits shape a i) (x % 64))
  pointers_set row shape a i x e = rows.bit_here row i _ x e ∙ bit_at_or (row i) (pointer_bits shape a i) (x % 64)

  -- the bits of the slot's words in word i, which were clear, tell the pointer fields
  pub set_pointers : (row : Row) (shape : Shape) (a i x : ℕ) → ((n : ℕ) → bits_at shape n < 2 ^ 64) → x / 64 ≡ i → a ≤ x → row_bit row x ≡ 0 →
      row_bit (with_word row i (bit_or (row i) (pointer_bits shape a i))) x ≡ bit (is_pointer shape (x - a))
  set_pointers row shape a i x narrow e low clear = grind (arith, max_left, narrow, pointer_bit, pointers_set)

  -- all others stay
  pub set_pointers_other : (row : Row) (shape : Shape) (a slot i x : ℕ) → ((n : ℕ) → bits_at shape n < 2 ^ 64) → ((k : ℕ) → slot ≤ k → is_pointer shape k ≡ false) → a / 64 ≤ i → (x < a) ⊎ (a + slot ≤ x) →
      row_bit (with_word row i (bit_or (row i) (pointer_bits shape a i))) x ≡ row_bit row x
  set_pointers_other row shape a slot i x narrow within start out = go (eqb i (x / 64)) refl where
    outside : x / 64 ≡ i → (x < a) ⊎ (a + slot ≤ x) → bit_at (pointer_bits shape a i) (x % 64) ≡ 0
    outside e (inl l) = pointer_bit_before shape a i x narrow e start l
    outside e (inr h) = pointer_bit shape a i x narrow e (omega arith) ∙ ap bit (within (x - a) (omega arith))

    go : (b : Bool) → eqb i (x / 64) ≡ b → row_bit (with_word row i (bit_or (row i) (pointer_bits shape a i))) x ≡ row_bit row x
    go true e =
        let same : x / 64 ≡ i = sym (eqb-true _ _ e) in
        pointers_set row shape a i x same ∙ ap (λ (n : ℕ). max (bit_at (row i) (x % 64)) n) (outside same out) ∙ max_zero (bit_at (row i) (x % 64)) ∙ sym (rows.bit_of row i x same)
    go false e = let apart : i ≢ x / 64 = grind (arith, nat_tests) in rows.bit_elsewhere row i _ x apart
