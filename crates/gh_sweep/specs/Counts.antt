-- The numbers that a sweep tells, as those of objects: heap words by their two bits.
use Rattle.std.specs.Prelude.{◌≡◌, ℕ, ◌+◌, ◌*◌, ◌^◌, ◌<◌, Bool, ◌==◌, ◌&&◌, not}
use Rattle.gh_sweep.specs.Vocabulary.{bit, Layout, Row, row_bit, SpanHead}
use Rattle.gh_sweep.specs.Bits.{sum_below}
use Rattle.gh_sweep.specs.Listing.{bit_words}
use Rattle.gh_sweep.specs.Steps.{alloc_told, marks_told}

-- how many of the numbers below n pass the test
abbrev pub count_below : (ℕ → Bool) → ℕ → ℕ
count_below test n = sum_below (λ k. bit (test k)) n

-- the bit of heap word x is set
abbrev pub is_set : Row → ℕ → Bool
is_set row x = row_bit row x == 1

module _ (alloc mark : Row) (page pages : ℕ) where
  -- heap word k of the span at this page
  abbrev pub heap_word : ℕ → ℕ
  heap_word k = 1024 * page + k

  -- how many of the span's heap words have both bits, and how many the alloc bit alone
  abbrev pub marked_objects : ℕ
  marked_objects = count_below (λ k. is_set alloc (heap_word k) && is_set mark (heap_word k)) (1024 * pages)

  abbrev pub unmarked_objects : ℕ
  unmarked_objects = count_below (λ k. is_set alloc (heap_word k) && not (is_set mark (heap_word k))) (1024 * pages)

-- each is a word of 64 bits
abbrev pub AreWords : Row → Type 0
AreWords row = (i : ℕ) → row i < 2 ^ 64

module _ (alloc mark : Row) (l : Layout) (page : ℕ) (head : SpanHead) (found : ℕ → ℕ) where
  -- the steps on the span's bits have found the words of these rows
  pub record AreTold : Type 0 where
    pub marks_are : (i : ℕ) → i < bit_words head → marks_told found i ≡ mark (16 * page + i)
    pub alloc_is : (i : ℕ) → i < bit_words head → alloc_told found i ≡ alloc (16 * page + i)
