-- The words of bits where a cycle has ended, as objects.
use Rattle.std.proofs.Common.{◌≡◌, ℕ, ◌+◌, ◌*◌, ◌<◌, Bool, eqb, ap, ◌∙◌, arith, ◌&&◌, not}
use Rattle.gh_sweep.proofs.Vocabulary.{alloc_at, bit, bit_at, bit_words_of, BitsAreObjects, CycleEnd, freed_at, HasEnded, in_all, is_set, kept_at, marked_objects, marks_at, Row, row_bit, RowsAreWritten, sum_below, TheBitsAreObjects, unmarked_objects}
use Rattle.gh_sweep.proofs.Bits.{freed_bits, kept_bits, sum_of_two, sum_same}
use Rattle.gh_sweep.proofs.Sweeping.Counts.{bit_is, by_words}

module _ (rows : RowsAreWritten) (e : CycleEnd) (ended : HasEnded e) where
  abbrev bit_here : Row → (i j : ℕ) → ℕ
  bit_here row i j = row_bit row (1024 * 0 + (64 * i + j))

  same_bit : (row : Row) (i j : ℕ) → j < 64 → bit_at (row i) j ≡ bit_here row i j
  same_bit row i j l = let at : i ≡ 16 * 0 + i = omega arith in ap (λ (n : ℕ). bit_at (row n) j) at ∙ bit_is rows row 0 i j l

  by_bits : (test : (alloc mark : ℕ) → ℕ) (each : ℕ → ℕ) → ((i : ℕ) → each i ≡ sum_below (λ j. test (bit_at (alloc_at e i) j) (bit_at (marks_at e i) j)) 64) →
      in_all e each ≡ sum_below (λ k. test (row_bit (alloc_at e) (1024 * 0 + k)) (row_bit (marks_at e) (1024 * 0 + k))) (1024 * e.layout.pages)
  by_bits test each is =
      by_words (λ k. test (row_bit (alloc_at e) (1024 * 0 + k)) (row_bit (marks_at e) (1024 * 0 + k))) each (bit_words_of e) (λ i l. is i ∙ sum_same _ _ 64 (λ j b. ap (λ (x : ℕ). test x (bit_at (marks_at e i) j)) (same_bit (alloc_at e) i j b) ∙ ap (λ (x : ℕ). test (bit_here (alloc_at e) i j) x) (same_bit (marks_at e) i j b)))
      ∙ ap (λ (n : ℕ). sum_below (λ k. test (row_bit (alloc_at e) (1024 * 0 + k)) (row_bit (marks_at e) (1024 * 0 + k))) n) (omega arith)

  all_marked : in_all e (kept_at e) ≡ marked_objects (alloc_at e) (marks_at e) 0 e.layout.pages
  all_marked = by_bits (λ a m. bit (eqb a 1 && eqb m 1)) (kept_at e) (λ i. kept_bits (alloc_at e i) (marks_at e i) (ended.alloc_fits i))

  all_freed : in_all e (freed_at e) ≡ unmarked_objects (alloc_at e) (marks_at e) 0 e.layout.pages
  all_freed = by_bits (λ a m. bit (eqb a 1 && not (eqb m 1))) (freed_at e) (λ i. freed_bits (alloc_at e i) (marks_at e i) (ended.alloc_fits i) (ended.marks_fit i))

  are_objects : BitsAreObjects e
  are_objects = record { marked = all_marked; freed = all_freed; all = sum_of_two _ _ (1024 * e.layout.pages) ∙ sum_same _ _ (1024 * e.layout.pages) (λ k l. both k) } where
    either : (a m : Bool) → bit (a && m) + bit (a && not m) ≡ bit a
    either a m = grind arith

    both : (k : ℕ) → bit (is_set (alloc_at e) (1024 * 0 + k) && is_set (marks_at e) (1024 * 0 + k)) + bit (is_set (alloc_at e) (1024 * 0 + k) && not (is_set (marks_at e) (1024 * 0 + k))) ≡ bit (is_set (alloc_at e) k)
    both k = let at : 1024 * 0 + k ≡ k = omega arith in either (is_set (alloc_at e) (1024 * 0 + k)) (is_set (marks_at e) (1024 * 0 + k)) ∙ ap (λ (x : ℕ). bit (is_set (alloc_at e) x)) at

pub bits_are_objects : RowsAreWritten → TheBitsAreObjects
bits_are_objects rows e ended = are_objects rows e ended
