-- What the counts tell where nothing was laid out and nothing made since the cycle ended.
use Rattle.std.proofs.Common.{◌≡◌, ℕ, ◌+◌, ◌*◌, ◌/◌, ◌%◌, ◌<◌, min, sym, ap, ◌∙◌, arith, inl, inr, None, bit_and, count_ones}
use Rattle.std.proofs.lemmas.Nat.{and_le_l, ones_le_self}
use Rattle.gh_state.proofs.Vocabulary.{AllIsTold, alloc_at, alloc_words, Arena, AreSwept, bit_at, bit_at-lt, bit_at_and, BitsAreObjects, Cell, CountsAreExact, CountsAreTold, eqb_tells, Good, Head, InSpan, IsAsItEnded, IsSpan, live_at, marks_at, page_of, page_words, placed_in, Row, row_bit, RowsAreWritten, same_from_bits_below, Shared, slot_row, SlotsAreRead, SpanHead, TheBitsAreObjects, TheSweepIsTold}
use Rattle.gh_state.proofs.Cycles.{sum_same}

pub record Known : Type 0 where
  pub rows : RowsAreWritten
  pub read : SlotsAreRead
  pub told : TheSweepIsTold
  pub bits : TheBitsAreObjects

bit_in_word : RowsAreWritten → (row : Row) (i j : ℕ) → j < 64 → bit_at (row i) j ≡ row_bit row (64 * i + j)
bit_in_word rows row i j low =
    let at : (64 * i + j) / 64 ≡ i = omega arith in
    let within : (64 * i + j) % 64 ≡ j = omega arith in
    sym (rows.bit_of row i (64 * i + j) at ∙ ap (λ (n : ℕ). bit_at (row i) n) within)

-- one of two bits that are 0 or 1, which are 1 together
same_bit : (b c : ℕ) → b < 2 → c < 2 → (b ≡ 1 → c ≡ 1) → (c ≡ 1 → b ≡ 1) → b ≡ c
same_bit b c lb lc f g = elim (eqb_tells b 1) [
  | inl y ↦ y.1 ∙ sym (f y.1)
  | inr n ↦ elim (eqb_tells c 1) [
    | inl y ↦ absurd (n.1 (g y.1))
    | inr m ↦ let nb = n.1 in let nc = m.1 in omega (arith, nb, nc, lb, lc)
  ]
]

no_bytes : (word bytes : ℕ) → word ≡ 0 → count_ones word * bytes ≡ 0
no_bytes word bytes is =
    let none : count_ones 0 ≡ 0 = omega (arith, ones_le_self 0) in
    let product : count_ones word * bytes ≡ 0 * bytes = ap (λ (n : ℕ). count_ones n * bytes) is ∙ ap (λ (n : ℕ). n * bytes) none in
    omega (arith, product)

module _ (k : Known) (z : Arena) (s : Shared) (g : Good z s) (none : s.told ≡ None) (swept : AreSwept s) (was : IsAsItEnded s) where
  all : AllIsTold s
  all = grind arith

  objects : BitsAreObjects s.end
  objects = k.bits s.end g.ended

  -- The objects that stand are those that were marked where the cycle ended.

  marked_stands : (x : ℕ) → row_bit (marks_at s.end) x ≡ 1 → row_bit (alloc_words s.heap.words) x ≡ 1
  marked_stands x set = g.sweep.stand x set

  stands_marked : (x : ℕ) → row_bit (alloc_words s.heap.words) x ≡ 1 → row_bit (marks_at s.end) x ≡ 1
  stands_marked x set = was.since x (all.objects x set)

  both_marked : (i j : ℕ) → j < 64 → bit_at (bit_and (alloc_at s.end i) (marks_at s.end i)) j ≡ bit_at (marks_at s.end i) j
  both_marked i j low =
      let both : bit_at (bit_and (alloc_at s.end i) (marks_at s.end i)) j ≡ min (bit_at (alloc_at s.end i) j) (bit_at (marks_at s.end i) j) = bit_at_and (alloc_at s.end i) (marks_at s.end i) j in
      same_bit (bit_at (bit_and (alloc_at s.end i) (marks_at s.end i)) j) (bit_at (marks_at s.end i) j) (bit_at-lt (bit_and (alloc_at s.end i) (marks_at s.end i)) j) (bit_at-lt (marks_at s.end i) j)
      (λ is. omega (arith, is, both, bit_at-lt (marks_at s.end i) j, bit_at-lt (alloc_at s.end i) j))
      (λ is.
      let stood : bit_at (alloc_at s.end i) j ≡ 1 = bit_in_word k.rows (alloc_at s.end) i j low ∙ g.ended.stand (64 * i + j) (sym (bit_in_word k.rows (marks_at s.end) i j low) ∙ is) in
      omega (arith, is, both, stood))

  same_word : (i : ℕ) → bit_and (alloc_at s.end i) (marks_at s.end i) ≡ s.heap.words (Cell.Alloc i)
  same_word i = same_from_bits_below 64 (bit_and (alloc_at s.end i) (marks_at s.end i)) (s.heap.words (Cell.Alloc i)) (let l = g.ended.alloc_fits i in omega (arith, l, and_le_l (alloc_at s.end i) (marks_at s.end i))) (g.sweep.fits i) (λ j low.
      both_marked i j low
      ∙ same_bit (bit_at (marks_at s.end i) j) (bit_at (s.heap.words (Cell.Alloc i)) j) (bit_at-lt (marks_at s.end i) j) (bit_at-lt (s.heap.words (Cell.Alloc i)) j)
      (λ is. bit_in_word k.rows (alloc_words s.heap.words) i j low ∙ marked_stands (64 * i + j) (sym (bit_in_word k.rows (marks_at s.end) i j low) ∙ is))
      (λ is. bit_in_word k.rows (marks_at s.end) i j low ∙ stands_marked (64 * i + j) (sym (bit_in_word k.rows (alloc_words s.heap.words) i j low) ∙ is)))

  -- Page words tell the bytes of their slots.

  whole : (p : ℕ) (h : SpanHead) → page_of (s.heap.words (Cell.Page p)) ≡ Head h → IsSpan z.layout.pages (page_words s.heap.words) p h
  whole p h is = g.heap.whole p h is (λ a y freed same. let free = was.none_freed a in absurd (cc (free, freed)))

  same_slot : (i : ℕ) → InSpan (page_words s.heap.words) i → s.slot i ≡ slot_row (page_words s.heap.words) i
  same_slot i c = g.sweep.slots i c ∙ sym (k.read z.layout.pages (page_words s.heap.words) i c (whole c.p c.h c.head))

  same_bytes : (i : ℕ) → placed_in (alloc_words s.heap.words) s.slot i ≡ placed_in (alloc_words s.heap.words) (slot_row (page_words s.heap.words)) i
  same_bytes i = elim (eqb_tells (s.heap.words (Cell.Alloc i)) 0) [
    | inl y ↦ no_bytes (s.heap.words (Cell.Alloc i)) (s.slot i) y.1 ∙ sym (no_bytes (s.heap.words (Cell.Alloc i)) (slot_row (page_words s.heap.words) i) y.1)
    | inr n ↦ ap (λ (x : ℕ). count_ones (s.heap.words (Cell.Alloc i)) * x) (same_slot i (g.sweep.inside i n.1))
  ]

  kept_bytes : (i : ℕ) → live_at s.end i ≡ placed_in (alloc_words s.heap.words) (slot_row (page_words s.heap.words)) i
  kept_bytes i = grind (arith, same_bytes, same_word)

  pub told : CountsAreExact s.end s.heap.words
  told = record {
    marked = all.marked ∙ objects.marked;
    freed = all.freed ∙ objects.freed;
    live = all.live ∙ sum_same (live_at s.end) (placed_in (alloc_words s.heap.words) (slot_row (page_words s.heap.words))) (16 * s.end.layout.pages) kept_bytes;
  }

pub counts_told : Known → CountsAreTold
counts_told k z s g none swept was = told k z s g none swept was
