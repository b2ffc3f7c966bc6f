-- The steps of a sweep, whatever it is told.
use Rattle.std.specs.Prelude.{◌≡◌, ◌≢◌, ℕ, ◌+◌, ◌*◌, ◌^◌, ◌<◌, ◌≤◌, ◌⊎◌, ◌↔◌, nat_lt}
use Rattle.gh_sweep.specs.Vocabulary.{Add, And, Cell, EndsWith, EndsWithin, head_word, Layout, Load, Lost, SpanHead, steps_of, Store, Swap, SweepEnd, Swept, SweptSpan, told}
use Rattle.gh_base.specs.Routines as routine
use Rattle.gh_sweep.specs.Bits.{freed_in, kept_in, sum_below}
use Rattle.gh_sweep.specs.Listing.{asks, bit_words, in_sweep, listing, negative, once_swept, opening, slot_bytes, slots_in, Sweeping}

-- the span lies in the arena
pub record IsInArena (l : Layout) (page : ℕ) (head : SpanHead) : Type 0 where
  pub some : 1 ≤ head.pages
  pub within : page + head.pages ≤ l.pages

-- what a sweep that has counted so many objects has found of the span
abbrev pub span_of : SpanHead → (kept freed : ℕ) → SweptSpan
span_of head kept freed = record { kept = kept; freed = freed; clear = nat_lt kept (slots_in head.class) }

-- Step 0 is the swap, and then each word of the span's bits has three steps: the first finds its marks, the second its alloc bits.
module _ (found : ℕ → ℕ) where
  abbrev pub marks_told : ℕ → ℕ
  marks_told i = found (1 + 3 * i)

  abbrev pub alloc_told : ℕ → ℕ
  alloc_told i = found (2 + 3 * i)

  -- the bits kept and freed in the first so many words
  abbrev pub kept_told : ℕ → ℕ
  kept_told words = sum_below (λ i. kept_in (alloc_told i) (marks_told i)) words

  abbrev pub freed_told : ℕ → ℕ
  freed_told words = sum_below (λ i. freed_in (alloc_told i) (marks_told i)) words

-- the steps before the first Add
abbrev pub steps_on_bits : SpanHead → ℕ
steps_on_bits head = 1 + 3 * bit_words head

module _ (l : Layout) (page : ℕ) (head : SpanHead) (found : ℕ → ℕ) where
  abbrev pub after : ℕ → Sweeping
  after n = told (steps_of l (listing l)) (opening page head) found n

  -- the bits kept and freed in the whole span
  abbrev pub kept : ℕ
  kept = kept_told found (bit_words head)

  abbrev pub freed : ℕ
  freed = freed_told found (bit_words head)

  -- the swap has found the head, so it has written
  abbrev pub IsBegun : Type 0
  IsBegun = found 0 ≡ head_word head

  -- the three steps for a word of the span's bits
  pub record StepsOnWord (i : ℕ) : Type 0 where
    pub loads_marks : asks l (after (1 + 3 * i)) ≡ Load (Cell.Mark (16 * page + i))
    pub clears_bits : asks l (after (2 + 3 * i)) ≡ And (Cell.Alloc (16 * page + i)) (marks_told found i)
    pub clears_marks : asks l (after (3 + 3 * i)) ≡ Store (Cell.Mark (16 * page + i)) 0

  -- the last four steps
  pub record StepsOnCounts : Type 0 where
    pub adds_tally : asks l (after (steps_on_bits head)) ≡ Add Cell.Tally (kept + 2 ^ 32 * freed)
    pub adds_live : asks l (after (steps_on_bits head + 1)) ≡ Add Cell.Live (kept * slot_bytes head)
    pub adds_heap : asks l (after (steps_on_bits head + 2)) ≡ Add Cell.Heap (negative (freed * slot_bytes head))
    pub finishes : asks l (after (steps_on_bits head + 3)) ≡ Store (Cell.Page page) (head_word (once_swept head))

  abbrev pub GoesOn : ℕ → Type 0
  GoesOn = routine.GoesOn (steps_of l (listing l)) (opening page head) found

  -- step n is its last, and gives this
  abbrev pub EndsBy : ℕ → SweepEnd → Type 0
  EndsBy n end = GoesOn n × EndsWith (steps_of l (listing l)) (opening page head) found n end

  pub record SweepsAsTold : Type 0 where
    pub begins : asks l (after 0) ≡ Swap (Cell.Page page) (head_word head) (head_word (in_sweep head))
    -- it is lost exactly by its first step, and exactly where that found another word
    pub lost : (n : ℕ) → EndsBy n Lost ↔ ((n ≡ 0) × (found 0 ≢ head_word head))
    -- else it takes these steps, and no other
    pub on_words : IsBegun → (i : ℕ) → i < bit_words head → StepsOnWord i
    pub on_counts : IsBegun → StepsOnCounts
    pub goes_on : (n : ℕ) → GoesOn n ↔ ((n ≡ 0) ⊎ (IsBegun × (n < steps_on_bits head + 4)))
    pub ends : EndsWithin (steps_of l (listing l)) (steps_on_bits head + 4) (opening page head) found
    -- and ends with what it has counted
    pub swept : (n : ℕ) (span : SweptSpan) → EndsBy n (Swept span) ↔ (IsBegun × (n ≡ steps_on_bits head + 3) × (span ≡ span_of head kept freed))

abbrev pub SweepTakesItsSteps : Type 0
SweepTakesItsSteps = (l : Layout) (page : ℕ) (head : SpanHead) (found : ℕ → ℕ) → IsInArena l page head → SweepsAsTold l page head found
