-- What a sweep relies on at each stage, where other actors' steps lie between its own, and what it leaves to the next.
use Rattle.std.specs.Prelude.{◌≡◌, ◌≢◌, ℕ, ◌+◌, ◌*◌, ◌<◌, ◌≤◌, ◌⊎◌, true, nat_lt, Some, bit_and, count_ones}
use Rattle.gh_sweep.specs.Vocabulary.{AddHeap, AddLive, AddTally, Alloc, Begin, bit_at, cell_of, ClearBits, ClearMarks, effect, Ended, Finish, Head, head_word, Layout, LoadMarks, Lost, Mark, Page, page_of, SpanHead, SweepStage, Swept, SweptSpan, Words}
use Rattle.gh_sweep.specs.Bits.{sum_below}
use Rattle.gh_sweep.specs.Listing.{asks, bit_words, gives, goes, in_sweep, is_busy, once_swept, slots_in, Sweeping}
use Rattle.gh_sweep.specs.Sound.{FitsSweep, IsStage}
use Rattle.gh_sweep.specs.Steps.{IsInArena}

-- the word is not that of the head of a span with this sweep number
abbrev pub HasNotNumber : (number word : ℕ) → Type 0
HasNotNumber number word = (h : SpanHead) → page_of word ≡ Head h → h.number ≢ number

module _ (s : Sweeping) (words : Words) where
  -- words of the span's bits
  abbrev pub alloc_here : ℕ → ℕ
  alloc_here i = words (Alloc (16 * s.page + i))

  abbrev pub marks_here : ℕ → ℕ
  marks_here i = words (Mark (16 * s.page + i))

  -- the span is its own: the head says that it is swept
  abbrev pub HasSpan : Type 0
  HasSpan = words (Page s.page) ≡ head_word (in_sweep s.head)

  -- it has the span, no mark is left in the first i words, and it has kept the objects of which the bits are set there
  pub record HasSwept (i : ℕ) : Type 0 where
    pub own : HasSpan
    pub no_marks : (j : ℕ) → j < i → marks_here j ≡ 0
    pub kept_are : s.kept ≡ sum_below (λ j. count_ones (alloc_here j)) i

  -- it has cleared the alloc bits of word i that were not marked, and not yet the marks
  pub record HasCleared (i : ℕ) : Type 0 where
    pub own : HasSpan
    pub no_marks : (j : ℕ) → j < i → marks_here j ≡ 0
    pub are_marked : (j : ℕ) → bit_at (alloc_here i) j ≡ 1 → bit_at (marks_here i) j ≡ 1
    pub kept_are : s.kept ≡ sum_below (λ j. count_ones (alloc_here j)) (i + 1)

  -- it has not begun, and the page has the head that was found, or another has begun to sweep it
  pub record MayBegin : Type 0 where
    pub none_kept : s.kept ≡ 0
    pub head_is : (words (Page s.page) ≡ head_word s.head) ⊎ HasNotNumber s.head.number (words (Page s.page))

  abbrev pub FactsAt : SweepStage → Type 0
  FactsAt Begin = MayBegin
  FactsAt (LoadMarks i) = HasSwept i
  FactsAt (ClearBits i marks) = HasSwept i × (marks_here i ≡ marks)
  FactsAt (ClearMarks i) = HasCleared i
  FactsAt AddTally = HasSwept (bit_words s.head)
  FactsAt AddLive = HasSwept (bit_words s.head)
  FactsAt AddHeap = HasSwept (bit_words s.head)
  FactsAt Finish = HasSwept (bit_words s.head)
  FactsAt (Ended end) = Unit {0}

  -- What its next step needs to be allowed: it is on its own span, and no marked object's bit is cleared, and no mark as long as it tells which.
  abbrev pub MayStep : SweepStage → Type 0
  MayStep Begin = Unit {0}
  MayStep (LoadMarks i) = HasSpan
  MayStep (ClearBits i marks) = HasSpan × ((j : ℕ) → bit_at (marks_here i) j ≡ 1 → bit_at (bit_and (alloc_here i) marks) j ≡ bit_at (alloc_here i) j)
  MayStep (ClearMarks i) = HasSpan × ((j : ℕ) → bit_at (alloc_here i) j ≡ 1 → bit_at (marks_here i) j ≡ 1)
  MayStep AddTally = HasSpan
  MayStep AddLive = HasSpan
  MayStep AddHeap = HasSpan
  MayStep Finish = HasSpan × ((i : ℕ) → i < bit_words s.head → marks_here i ≡ 0)
  MayStep (Ended end) = Unit {0}

  -- the span is swept: its head says so, no mark is left, and the objects that stand there are those that were kept
  pub record IsSweptNow (span : SweptSpan) : Type 0 where
    pub head_is : words (Page s.page) ≡ head_word (once_swept s.head)
    pub no_marks : (i : ℕ) → i < bit_words s.head → marks_here i ≡ 0
    pub kept_are : span.kept ≡ sum_below (λ i. count_ones (alloc_here i)) (bit_words s.head)
    -- a slot is said to be clear where these are fewer than the slots
    pub clear_is : span.clear ≡ nat_lt span.kept (slots_in s.head.class)

abbrev pub Facts : Sweeping → Words → Type 0
Facts s words = FactsAt s words s.stage

-- the span lies in the arena, its head fits its word, and the stage is one of the span
pub record IsPlaced (l : Layout) (s : Sweeping) : Type 0 where
  pub arena : IsInArena l s.page s.head
  pub head : FitsSweep s.head
  pub stage : IsStage s.head s.stage

module _ (l : Layout) (s : Sweeping) (words : Words) where
  abbrev finds : ℕ
  finds = words (cell_of (asks l s))

  abbrev then : Words
  then = effect words (asks l s)

  -- its own step is allowed, and leads to the next stage's facts, or to its end
  pub record OwnStep : Type 0 where
    pub may : MayStep s words s.stage
    pub leads : Facts (goes s finds) then
    pub lost : gives s finds ≡ Some Lost → HasNotNumber s.head.number (then (Page s.page))
    pub swept : (span : SweptSpan) → gives s finds ≡ Some (Swept span) → IsSweptNow s then span

-- What other actors leave to it.
module _ (s : Sweeping) (before after : Words) where
  -- the words of the span that it has
  pub record SpanStays : Type 0 where
    pub head_stays : after (Page s.page) ≡ before (Page s.page)
    pub alloc_stays : (i : ℕ) → i < bit_words s.head → after (Alloc (16 * s.page + i)) ≡ before (Alloc (16 * s.page + i))
    pub marks_stay : (i : ℕ) → i < bit_words s.head → after (Mark (16 * s.page + i)) ≡ before (Mark (16 * s.page + i))

  -- before it has begun: where the page's word changes, the span is not unswept any more
  abbrev pub HeadStays : Type 0
  HeadStays = (after (Page s.page) ≡ before (Page s.page)) ⊎ HasNotNumber s.head.number (after (Page s.page))

  abbrev pub OthersAt : SweepStage → Type 0
  OthersAt Begin = HeadStays
  OthersAt (Ended end) = Unit {0}
  OthersAt _ = SpanStays

abbrev pub Others : Sweeping → (before after : Words) → Type 0
Others s before after = OthersAt s before after s.stage

-- the two spans have no page in common
abbrev pub SpansAreApart : (s t : Sweeping) → Type 0
SpansAreApart s t = (s.page + s.head.pages ≤ t.page) ⊎ (t.page + t.head.pages ≤ s.page)

-- of one span and the same number, and the second has not begun
pub record IsBehind (s t : Sweeping) : Type 0 where
  pub same_page : s.page ≡ t.page
  pub same_number : s.head.number ≡ t.head.number
  pub not_begun : t.stage ≡ Begin

pub record SweepKeepsItsFacts : Type 0 where
  -- its own step is allowed and leads on
  pub own : (l : Layout) (s : Sweeping) (words : Words) → IsPlaced l s → is_busy s.stage ≡ true → Facts s words → OwnStep l s words
  -- its facts last under what others do
  pub last : (l : Layout) (s : Sweeping) (before after : Words) → IsPlaced l s → Others s before after → Facts s before → Facts s after
  -- the steps of another sweep are of these: of another span, or of the same where one of the two has begun and the other has not
  pub others : (l : Layout) (s t : Sweeping) (words : Words) → IsPlaced l s → IsPlaced l t → SpansAreApart s t ⊎ IsBehind s t → Others t words (effect words (asks l s))
