-- That a slot of a swept span is clear is told by the number of the objects that were kept.
use Rattle.std.specs.Prelude.{◌≡◌, ℕ, ◌+◌, ◌*◌, ◌<◌, true, false}
use Rattle.gh_sweep.specs.Vocabulary.{alloc_words, pages_of, Row, row_bit, slot_words_of, slots_of, Small, SweptSpan, Words}
use Rattle.gh_class.specs.declared.class.TheConstants.{CLASSES}
use Rattle.gh_sweep.specs.Counts.{AreWords}
use Rattle.gh_sweep.specs.Facts.{IsSweptNow}
use Rattle.gh_sweep.specs.Listing.{Sweeping}

module _ (alloc : Row) (page c : ℕ) where
  -- slot n of the span of size class c at this page is clear: its first word has no alloc bit
  pub record IsClear (n : ℕ) : Type 0 where
    pub among : n < slots_of c
    pub unset : row_bit alloc (1024 * page + n * slot_words_of c) ≡ 0

  -- each alloc bit of the span is that of a slot's first word
  abbrev pub AreOfSlots : Type 0
  AreOfSlots = (k : ℕ) → k < 1024 * pages_of c → row_bit alloc (1024 * page + k) ≡ 1 → (n : ℕ) × (n < slots_of c) × (k ≡ n * slot_words_of c)

pub record ClearIsTrue (alloc : Row) (page c : ℕ) (span : SweptSpan) : Type 0 where
  -- where a slot is said to be clear, one is
  pub some_slot : span.clear ≡ true → (n : ℕ) × IsClear alloc page c n
  -- and else none is, as long as each alloc bit is a slot's
  pub no_slot : span.clear ≡ false → AreOfSlots alloc page c → (n : ℕ) → ¬ IsClear alloc page c n

-- of a span of size class c that has just been swept
abbrev pub ClearSlotsAreTold : Type 0
ClearSlotsAreTold = (s : Sweeping) (words : Words) (span : SweptSpan) (c : ℕ) → c < CLASSES → s.head.class ≡ Small c → s.head.pages ≡ pages_of c → AreWords (alloc_words words) → IsSweptNow s words span →
    ClearIsTrue (alloc_words words) s.page c span
