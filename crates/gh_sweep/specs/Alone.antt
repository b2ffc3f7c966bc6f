-- What a sweep leaves where no other actor's step lies between its own.
use Rattle.std.specs.Prelude.{◌≡◌, ◌≢◌, ℕ, ◌+◌, ◌*◌, ◌%◌, ◌^◌, ◌<◌, ◌↔◌, Some}
use Rattle.gh_sweep.specs.Vocabulary.{alloc_bit, alloc_words, Alone, Cell, cell_of, head_word, Layout, Leaves, mark_bit, mark_words, SpanHead, steps_of, Swept, Words}
use Rattle.gh_base.specs.Routines as routine
use Rattle.gh_sweep.specs.Counts.{marked_objects, unmarked_objects}
use Rattle.gh_sweep.specs.Listing.{asks, bit_words, gives, listing, once_swept, opening, slot_bytes, Sweeping}
use Rattle.gh_sweep.specs.Steps.{IsInArena, span_of, steps_on_bits}

module _ (l : Layout) (page : ℕ) (head : SpanHead) (before : Words) where
  abbrev pub objects_kept : ℕ
  objects_kept = marked_objects (alloc_words before) (mark_words before) page head.pages

  abbrev pub objects_freed : ℕ
  objects_freed = unmarked_objects (alloc_words before) (mark_words before) page head.pages

  -- a cell that is neither the head nor a word of the span's bits nor a count
  pub record IsOther (c : Cell) : Type 0 where
    pub head_word : c ≢ Cell.Page page
    pub alloc : (i : ℕ) → i < bit_words head → c ≢ Cell.Alloc (16 * page + i)
    pub mark : (i : ℕ) → i < bit_words head → c ≢ Cell.Mark (16 * page + i)
    pub tally : c ≢ Cell.Tally
    pub live : c ≢ Cell.Live
    pub heap : c ≢ Cell.Heap

  pub record IsSwept (after : Words) : Type 0 where
    -- a heap word of the span has its alloc bit exactly where it had both bits, and no mark is left
    pub objects : (k : ℕ) → k < 1024 * head.pages → (alloc_bit after (1024 * page + k) ≡ 1) ↔ ((alloc_bit before (1024 * page + k) ≡ 1) × (mark_bit before (1024 * page + k) ≡ 1))
    pub marks : (i : ℕ) → i < bit_words head → after (Cell.Mark (16 * page + i)) ≡ 0
    -- the counts are changed by what was kept and freed, modulo 2^64
    pub tally : after Cell.Tally ≡ (before Cell.Tally + (objects_kept + 2 ^ 32 * objects_freed)) % 2 ^ 64
    pub live : after Cell.Live ≡ (before Cell.Live + objects_kept * slot_bytes head) % 2 ^ 64
    pub heap : (after Cell.Heap + objects_freed * slot_bytes head) % 2 ^ 64 ≡ before Cell.Heap
    -- the head says that nobody owns the span and that it is swept
    pub head_is : after (Cell.Page page) ≡ head_word (once_swept head)
    -- and nothing else is changed
    pub others : (c : Cell) → IsOther c → after c ≡ before c

  abbrev pub from : Alone Sweeping
  from = record { routine = opening page head; words = before }

  -- what it is, and the words are, after n steps
  abbrev pub alone : ℕ → Alone Sweeping
  alone = routine.alone (steps_of l (listing l)) from

  -- what its step n finds
  abbrev pub found_alone : ℕ → ℕ
  found_alone n = (alone n).words (cell_of (asks l (alone n).routine))

  -- it leaves the span swept, and its last step gives the numbers of the objects kept and freed
  pub record SweepsSpan : Type 0 where
    pub leaves : Leaves (steps_of l (listing l)) from IsSwept
    pub steps : leaves.steps ≡ steps_on_bits head + 4
    pub gives_counts : gives (alone (steps_on_bits head + 3)).routine (found_alone (steps_on_bits head + 3)) ≡ Some (Swept (span_of head objects_kept objects_freed))

abbrev pub SpansAreSwept : Type 0
SpansAreSwept = (l : Layout) (page : ℕ) (head : SpanHead) (before : Words) → IsInArena l page head → ((c : Cell) → before c < 2 ^ 64) → before (Cell.Page page) ≡ head_word head → SweepsSpan l page head before
