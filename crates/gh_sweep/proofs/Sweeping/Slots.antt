-- A span has a clear slot exactly where it has fewer objects than slots.
use Rattle.std.proofs.Common.{◌≡◌, ◌≢◌, ℕ, zero, suc, ◌+◌, ◌-◌, ◌*◌, ◌/◌, ◌%◌, ◌<◌, ◌≤◌, ◌⊎◌, Bool, true, false, eqb, ltb, refl, sym, ap, subst, ◌∙◌, arith, inl, inr}
use Rattle.std.proofs.lemmas.Bool.{eqb-true, eq-eqb, ltb-true, ltb-false}
use Rattle.gh_sweep.proofs.Vocabulary.{alloc_words, AreWords, bit_at, bit_at-lt, IsSweptNow, mul-le-mul_right, pages_of, row_bit, RowsAreWritten, slot_of, slot_words_of, slots_in, slots_of, sum_below, Sweeping, SweptSpan, Words}
use Rattle.gh_class.specs.declared.class.SizeClass.{SizeClass}
use Rattle.gh_class.specs.declared.class.SizeClass.TheVariants.{Small}
use Rattle.gh_sweep.specs.Slots.{ClearIsTrue}
use Rattle.gh_sweep.proofs.Bits.{set_bits, sum_behind, sum_first, sum_more, sum_none, sum_same}
use Rattle.gh_sweep.proofs.Sweeping.Counts.{bit_is, by_words}

sum_zero : (g : ℕ → ℕ) (n : ℕ) → ((i : ℕ) → i < n → g i ≡ 0) → sum_below g n ≡ 0
sum_zero g zero h = sum_none g
sum_zero g (suc n) h =
    let rest : sum_below g n ≡ 0 = sum_zero g n (λ i lt. h i (omega arith)) in
    omega (arith, rest, sum_more g n, h n (omega arith))

first_below : (g : ℕ → ℕ) (n : ℕ) → 1 ≤ n → g 0 ≤ sum_below g n
first_below g zero some = absurd (omega arith)
first_below g (suc n) some = omega (arith, sum_first g n)

-- where none but the first is set
first_only : (g : ℕ → ℕ) (n : ℕ) → 1 ≤ n → ((i : ℕ) → i < n → 1 ≤ i → g i ≡ 0) → sum_below g n ≡ g 0
first_only g zero some h = absurd (omega arith)
first_only g (suc n) some h =
    let rest : sum_below (λ i. g (suc i)) n ≡ 0 = sum_zero (λ i. g (suc i)) n (λ i lt. h (suc i) (omega arith) (omega arith)) in
    omega (arith, rest, sum_first g n)

-- Bits f, of which one stands at the beginning of each of so many slots of w words.
module _ (f : ℕ → ℕ) (w : ℕ) (small : (k : ℕ) → f k < 2) (some : 1 ≤ w) where
  -- one of them is clear, or all are set
  abbrev Clear : ℕ → Type 0
  Clear slots = (n : ℕ) × (n < slots) × (f (n * w) ≡ 0)

  abbrev AllSet : ℕ → Type 0
  AllSet slots = (n : ℕ) → n < slots → f (n * w) ≡ 1

  clear_or_all : (slots : ℕ) → Clear slots ⊎ AllSet slots
  clear_or_all zero = inr (λ n lt. absurd (omega arith))
  clear_or_all (suc slots) = elim (clear_or_all slots) [
    | inl c ↦ let lt : c.0 < slots = c.1 in inl (c.0, omega arith, c.2)
    | inr all ↦ by (eqb (f (slots * w)) 0) refl all
  ] where
    by : (b : Bool) → eqb (f (slots * w)) 0 ≡ b → AllSet slots → Clear (suc slots) ⊎ AllSet (suc slots)
    by b e all = grind arith

  slot_more : (m : ℕ) → sum_below f (suc m * w) ≡ sum_below f (m * w) + sum_below (λ i. f (m * w + i)) w
  slot_more m = let e : suc m * w ≡ m * w + w = omega arith in ap (λ (k : ℕ). sum_below f k) e ∙ sum_behind f (m * w) w

  first_is : (m : ℕ) → f (m * w + 0) ≡ f (m * w)
  first_is m = let e : m * w + 0 ≡ m * w = omega arith in ap f e

  at_least : (slots : ℕ) → AllSet slots → slots ≤ sum_below f (slots * w)
  at_least zero all = omega arith
  at_least (suc m) all =
      let rest : m ≤ sum_below f (m * w) = at_least m (λ n lt. all n (omega arith)) in
      let first = first_below (λ i. f (m * w + i)) w some in
      let set : f (m * w) ≡ 1 = all m (omega arith) in
      omega (arith, rest, first, set, first_is m, slot_more m)

  longer : (m n : ℕ) → m ≤ n → sum_below f m ≤ sum_below f n
  longer m n le =
      let e : m + (n - m) ≡ n = omega arith in
      let sum = sum_behind f m (n - m) in
      let same : sum_below f (m + (n - m)) ≡ sum_below f n = ap (λ (k : ℕ). sum_below f k) e in
      omega (arith, sum, same)

  some_clear : (slots room : ℕ) → slots * w ≤ room → sum_below f room < slots → Clear slots
  some_clear slots room le few = elim (clear_or_all slots) [
    | inl c ↦ c
    | inr all ↦ absurd (omega (arith, few, at_least slots all, longer (slots * w) room le))
  ]

  -- Where no other bit is set.
  module _ (slots room : ℕ) (fit : slots * w ≤ room) (only : (k : ℕ) → k < room → f k ≡ 1 → (n : ℕ) × (n < slots) × (k ≡ n * w)) where
    not_set : (k : ℕ) → (f k ≡ 1 → ⊥) → f k ≡ 0
    not_set k never = grind arith

    -- a word inside a slot is none's first
    inside : (m n i : ℕ) → 1 ≤ i → i < w → m * w + i ≡ n * w → ⊥
    inside m n i pos lt e = by (ltb m n) refl where
      by : (b : Bool) → ltb m n ≡ b → ⊥
      by true x = let le : suc m * w ≤ n * w = mul-le-mul_right w (ltb-true _ _ x) in absurd (omega arith)
      by false x = let le : n * w ≤ m * w = mul-le-mul_right w (ltb-false _ _ x) in absurd (omega arith)

    slot_room : (m : ℕ) → m < slots → m * w + w ≤ room
    slot_room m lt = let le : suc m * w ≤ slots * w = mul-le-mul_right w lt in omega arith

    slot_sum : (m : ℕ) → m < slots → sum_below (λ i. f (m * w + i)) w ≡ f (m * w)
    slot_sum m lt = first_only (λ i. f (m * w + i)) w some (λ i below pos. not_set (m * w + i) (λ set. let r : m * w + w ≤ room = slot_room m lt in let h = only (m * w + i) (omega arith) set in inside m h.0 i pos below h.2)) ∙ first_is m

    -- as many objects as slots at the most, and fewer where one of these is clear
    at_most : (m : ℕ) → m ≤ slots → sum_below f (m * w) ≤ m
    at_most zero le = let e : 0 * w ≡ 0 = omega arith in let none : sum_below f (0 * w) ≡ 0 = ap (λ (k : ℕ). sum_below f k) e ∙ sum_none f in omega (arith, none)
    at_most (suc m) le =
        let rest : sum_below f (m * w) ≤ m = at_most m (omega arith) in
        let low : f (m * w) < 2 = small (m * w) in
        omega (arith, rest, low, slot_more m, slot_sum m (omega arith))

    fewer : (n m : ℕ) → n < m → m ≤ slots → f (n * w) ≡ 0 → sum_below f (m * w) < m
    fewer n zero lt le e = absurd (omega arith)
    fewer n (suc m) lt le e = by (eqb n m) refl (λ before. fewer n m before (omega arith) e) where
      by : (b : Bool) → eqb n m ≡ b → (n < m → sum_below f (m * w) < m) → sum_below f (suc m * w) < suc m
      by true x before =
          let none : f (m * w) ≡ 0 = ap (λ (k : ℕ). f (k * w)) (sym (eqb-true _ _ x)) ∙ e in
          omega (arith, none, at_most m (omega arith), slot_more m, slot_sum m (omega arith))
      by false x before =
          let ne : n ≢ m = λ z. absurd (cc (x, eq-eqb _ _ z)) in
          let rest : sum_below f (m * w) < m = before (omega arith) in
          let low : f (m * w) < 2 = small (m * w) in
          omega (arith, rest, low, slot_more m, slot_sum m (omega arith))

    -- behind the slots nothing is set
    behind : (k : ℕ) → slots * w ≤ k → k < room → f k ≡ 0
    behind k le lt = grind arith

    all_of_room : sum_below f room ≡ sum_below f (slots * w)
    all_of_room =
        let e : slots * w + (room - slots * w) ≡ room = omega arith in
        let same : sum_below f (slots * w + (room - slots * w)) ≡ sum_below f room = ap (λ (k : ℕ). sum_below f k) e in
        let rest : sum_below (λ i. f (slots * w + i)) (room - slots * w) ≡ 0 = sum_zero (λ i. f (slots * w + i)) (room - slots * w) (λ i lt. behind (slots * w + i) (omega arith) (omega arith)) in
        omega (arith, same, rest, sum_behind f (slots * w) (room - slots * w))

    clear_counts : (n : ℕ) → n < slots → f (n * w) ≡ 0 → sum_below f room < slots
    clear_counts n lt e = grind (arith, all_of_room, fewer)

-- A span of a size class: a slot has a word at least, and the slots fit the pages.
pub record IsCut (c : ℕ) : Type 0 where
  pub fit : slots_of c * slot_of c ≤ 8192 * pages_of c
  pub least : 8 ≤ slot_of c
  pub whole_words : slot_of c % 8 ≡ 0

words_fit : (size slots room : ℕ) → size % 8 ≡ 0 → slots * size ≤ 8192 * room → slots * (size / 8) ≤ 1024 * room
words_fit size slots room whole fit =
    let is : size ≡ 8 * (size / 8) = omega arith in
    let fits : slots * (8 * (size / 8)) ≤ 8192 * room = subst (λ (n : ℕ). slots * n ≤ 8192 * room) is fit in
    omega arith

module _ (rows : RowsAreWritten) (s : Sweeping) (words : Words) (span : SweptSpan) (c : ℕ) (cut : IsCut c) (class : s.head.class ≡ Small c) (pages : s.head.pages ≡ pages_of c) (fits : AreWords (alloc_words words)) (swept : IsSweptNow s words span) where
  abbrev f : ℕ → ℕ
  f k = row_bit (alloc_words words) (1024 * s.page + k)

  f_small : (k : ℕ) → f k < 2
  f_small k =
      let is : f k ≡ bit_at (alloc_words words ((1024 * s.page + k) / 64)) ((1024 * s.page + k) % 64) = rows.bit_of (alloc_words words) ((1024 * s.page + k) / 64) (1024 * s.page + k) refl in
      omega (arith, is, bit_at-lt (alloc_words words ((1024 * s.page + k) / 64)) ((1024 * s.page + k) % 64))

  kept_bits_are : span.kept ≡ sum_below f (1024 * pages_of c)
  kept_bits_are =
      let all : 64 * (16 * s.head.pages) ≡ 1024 * pages_of c = omega (arith, pages) in
      swept.kept_are ∙ by_words f _ (16 * s.head.pages) (λ i lt. set_bits (alloc_words words (16 * s.page + i)) (fits (16 * s.page + i)) ∙ sum_same _ _ 64 (λ j below. bit_is rows (alloc_words words) s.page i j below)) ∙ ap (λ (n : ℕ). sum_below f n) all

  clear_is : span.clear ≡ ltb span.kept (slots_of c)
  clear_is = swept.clear_is ∙ ap (λ (k : SizeClass). ltb span.kept (slots_in k)) class

  slots_fit : slots_of c * slot_words_of c ≤ 1024 * pages_of c
  slots_fit = words_fit (slot_of c) (slots_of c) (pages_of c) cut.whole_words cut.fit

  some_word : 1 ≤ slot_words_of c
  some_word = let least : 8 ≤ slot_of c = cut.least in omega arith

  pub clear_is_true : ClearIsTrue (alloc_words words) s.page c span
  clear_is_true = grind (arith, clear_counts, clear_is, f_small, kept_bits_are, slots_fit, some_clear, some_word)
