-- The bits kept and freed, word after word, are the span's objects by their two bits.
use Rattle.std.proofs.Common.{◌≡◌, ℕ, zero, suc, ◌+◌, ◌*◌, ◌/◌, ◌%◌, ◌<◌, eqb, sym, ap, ◌∙◌, arith, ◌&&◌, not}
use Rattle.gh_sweep.proofs.Vocabulary.{alloc_told, AreTold, AreWords, bit, bit_at, bit_words, freed_in, freed_told, is_set, kept_in, kept_told, Layout, marked_objects, marks_told, Row, row_bit, RowsAreWritten, SpanHead, sum_below, unmarked_objects}
use Rattle.gh_sweep.proofs.Bits.{freed_bits, kept_bits, sum_behind, sum_more, sum_none, sum_same}

-- a sum of words is that of their bits
pub by_words : (f g : ℕ → ℕ) (n : ℕ) → ((i : ℕ) → i < n → g i ≡ sum_below (λ j. f (64 * i + j)) 64) → sum_below g n ≡ sum_below f (64 * n)
by_words f g zero h = sum_none g ∙ sym (sum_none f)
by_words f g (suc n) h =
    let rest : sum_below g n ≡ sum_below f (64 * n) = by_words f g n (λ i lt. h i (omega arith)) in
    let last : g n ≡ sum_below (λ j. f (64 * n + j)) 64 = h n (omega arith) in
    let sum : sum_below f (64 * n + 64) ≡ sum_below f (64 * n) + sum_below (λ j. f (64 * n + j)) 64 = sum_behind f (64 * n) 64 in
    let same : 64 * suc n ≡ 64 * n + 64 = omega arith in
    rw same (omega (arith, rest, last, sum, sum_more g n))

-- bit j of word i of the span
pub bit_is : RowsAreWritten → (row : Row) (page i j : ℕ) → j < 64 → bit_at (row (16 * page + i)) j ≡ row_bit row (1024 * page + (64 * i + j))
bit_is rows row page i j lt =
    let word : (1024 * page + (64 * i + j)) / 64 ≡ 16 * page + i = omega arith in
    let place : (1024 * page + (64 * i + j)) % 64 ≡ j = omega arith in
    sym (rows.bit_of row (16 * page + i) (1024 * page + (64 * i + j)) word ∙ ap (λ (n : ℕ). bit_at (row (16 * page + i)) n) place)

module _ (rows : RowsAreWritten) (alloc mark : Row) (l : Layout) (page : ℕ) (head : SpanHead) (found : ℕ → ℕ) (alloc_fits : AreWords alloc) (mark_fits : AreWords mark) (told : AreTold alloc mark l page head found) where
  -- a number of each word's bits by the two bits is that of the heap words
  word_sum : (count : ℕ → ℕ → ℕ) (i : ℕ) →
      sum_below (λ j. count (bit_at (alloc (16 * page + i)) j) (bit_at (mark (16 * page + i)) j)) 64 ≡ sum_below (λ j. count (row_bit alloc (1024 * page + (64 * i + j))) (row_bit mark (1024 * page + (64 * i + j)))) 64
  word_sum count i = sum_same _ _ 64 (λ j lt. ap (λ (a : ℕ). count a (bit_at (mark (16 * page + i)) j)) (bit_is rows alloc page i j lt) ∙ ap (λ (m : ℕ). count (row_bit alloc (1024 * page + (64 * i + j))) m) (bit_is rows mark page i j lt))

  all_words : 64 * bit_words head ≡ 1024 * head.pages
  all_words = omega arith

  kept_word : (i : ℕ) → i < bit_words head → kept_in (alloc_told found i) (marks_told found i) ≡ sum_below (λ j. bit (is_set alloc (1024 * page + (64 * i + j)) && is_set mark (1024 * page + (64 * i + j)))) 64
  kept_word i lt =
      ap (λ (a : ℕ). kept_in a (marks_told found i)) (told.alloc_is i lt) ∙ ap (λ (m : ℕ). kept_in (alloc (16 * page + i)) m) (told.marks_are i lt)
      ∙ kept_bits (alloc (16 * page + i)) (mark (16 * page + i)) (alloc_fits (16 * page + i)) ∙ word_sum (λ a m. bit (eqb a 1 && eqb m 1)) i

  freed_word : (i : ℕ) → i < bit_words head → freed_in (alloc_told found i) (marks_told found i) ≡ sum_below (λ j. bit (is_set alloc (1024 * page + (64 * i + j)) && not (is_set mark (1024 * page + (64 * i + j))))) 64
  freed_word i lt =
      ap (λ (a : ℕ). freed_in a (marks_told found i)) (told.alloc_is i lt) ∙ ap (λ (m : ℕ). freed_in (alloc (16 * page + i)) m) (told.marks_are i lt)
      ∙ freed_bits (alloc (16 * page + i)) (mark (16 * page + i)) (alloc_fits (16 * page + i)) (mark_fits (16 * page + i)) ∙ word_sum (λ a m. bit (eqb a 1 && not (eqb m 1))) i

  pub kept_counted : kept_told found (bit_words head) ≡ marked_objects alloc mark page head.pages
  kept_counted = grind (arith, all_words, by_words, kept_word)

  pub freed_counted : freed_told found (bit_words head) ≡ unmarked_objects alloc mark page head.pages
  freed_counted = grind (arith, all_words, by_words, freed_word)
