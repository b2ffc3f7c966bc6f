-- A span is swept: what is asked for at each stage, where that leads, what is given, and what is written.
use Rattle.std.specs.Prelude.{ℕ, ◌+◌, ◌-◌, ◌*◌, ◌%◌, ◌^◌, Bool, true, false, nat_lt, ◌==◌, if◌then◌else◌, Option, Some, None, is_none}
use Rattle.gh_sweep.specs.Vocabulary.{Add, AddHeap, AddLive, AddTally, And, Ask, Begin, Cell, ClearBits, ClearMarks, Ended, Finish, head_word, Large, Layout, Listing, Load, LoadMarks, Lost, slot_of, slots_of, Small, SpanHead, Store, Swap, Sweep, SweepEnd, SweepStage, Swept, SweptSpan, tally_word}
use Rattle.gh_base.specs.Footprints.{Footprint}
use Rattle.gh_base.specs.Footprints as row
use Rattle.gh_class.specs.declared.class.SizeClass.{SizeClass}
use Rattle.gh_sweep.specs.Bits.{freed_in, kept_in}
use Rattle.gh_sweep.specs.Sound.{Sound}
pub use Rattle.gh_sweep.specs.Sound.{bit_words}

-- the span's first page and what its head word was found to say, the bits kept and freed so far, and the routine's stage
abbrev pub Sweeping : Type 0
Sweeping = Sweep

abbrev pub opening : ℕ → SpanHead → Sweeping
opening page head = record { page = page; head = head; kept = 0; freed = 0; stage = Begin }

abbrev pub at_stage : Sweeping → SweepStage → Sweeping
at_stage s stage = record s { stage = stage }

-- the head while the span is swept, and once it is swept
abbrev pub in_sweep : SpanHead → SpanHead
in_sweep h = record h { number = h.number + 1 }

abbrev pub once_swept : SpanHead → SpanHead
once_swept h = record h { owner = 0; number = h.number + 2 }

-- the bytes of a slot, and how many slots there are, in a span of this size class and of so many pages
abbrev pub slot_bytes_of : SizeClass → (pages : ℕ) → ℕ
slot_bytes_of (Small c) pages = slot_of c
slot_bytes_of Large pages = 8192 * pages

abbrev pub slot_bytes : SpanHead → ℕ
slot_bytes h = slot_bytes_of h.class h.pages

abbrev pub slots_in : SizeClass → ℕ
slots_in (Small c) = slots_of c
slots_in Large = 1

-- what is taken off the heap's bytes, as it is added
abbrev pub negative : ℕ → ℕ
negative bytes = (2 ^ 64 - bytes % 2 ^ 64) % 2 ^ 64

module _ (l : Layout) (s : Sweeping) where
  -- where word i of the span's bits lies in its row
  abbrev pub word_at : ℕ → ℕ
  word_at i = (16 * s.page + i) % (16 * l.pages)

  abbrev pub asks_at : SweepStage → Ask
  asks_at Begin = Swap (Cell.Page s.page) (head_word s.head) (head_word (in_sweep s.head))
  asks_at (LoadMarks i) = Load (Cell.Mark (word_at i))
  asks_at (ClearBits i marks) = And (Cell.Alloc (word_at i)) marks
  asks_at (ClearMarks i) = Store (Cell.Mark (word_at i)) 0
  asks_at AddTally = Add Cell.Tally (tally_word (record { marked = s.kept; freed = s.freed }))
  asks_at AddLive = Add Cell.Live (s.kept * slot_bytes s.head)
  asks_at AddHeap = Add Cell.Heap (negative (s.freed * slot_bytes s.head))
  asks_at Finish = Store (Cell.Page s.page) (head_word (once_swept s.head))
  asks_at (Ended end) = Load Cell.Touch

module _ (s : Sweeping) where
  -- the next word of the span's bits, if there is one
  abbrev pub behind : ℕ → SweepStage
  behind i = if nat_lt (i + 1) (bit_words s.head) then LoadMarks (i + 1) else AddTally

  -- the swap has written where it found the head
  abbrev pub wrote : ℕ → Bool
  wrote found = found == head_word s.head

  abbrev pub counted : (i marks found : ℕ) → Sweeping
  counted i marks found = record s { kept = s.kept + kept_in found marks; freed = s.freed + freed_in found marks; stage = ClearMarks i }

  -- what it has found of the span
  abbrev pub swept_span : SweptSpan
  swept_span = record { kept = s.kept; freed = s.freed; clear = nat_lt s.kept (slots_in s.head.class) }

  abbrev pub goes_at : SweepStage → ℕ → Sweeping
  goes_at Begin found = at_stage s (if wrote found then LoadMarks 0 else Ended Lost)
  goes_at (LoadMarks i) found = at_stage s (ClearBits i found)
  goes_at (ClearBits i marks) found = counted i marks found
  goes_at (ClearMarks i) found = at_stage s (behind i)
  goes_at AddTally found = at_stage s AddLive
  goes_at AddLive found = at_stage s AddHeap
  goes_at AddHeap found = at_stage s Finish
  goes_at Finish found = at_stage s (Ended (Swept swept_span))
  goes_at (Ended end) found = at_stage s (Ended end)

-- what it has given, and whether it is busy
abbrev pub given_at : SweepStage → Option SweepEnd
given_at (Ended end) = Some end
given_at _ = None

abbrev pub given : Sweeping → Option SweepEnd
given s = given_at s.stage

abbrev pub is_busy : SweepStage → Bool
is_busy stage = is_none (given_at stage)

-- the step that it asks for, what it is after the step found this, and what it has given then
abbrev pub asks : Layout → Sweeping → Ask
asks l s = asks_at l s s.stage

abbrev pub goes : Sweeping → ℕ → Sweeping
goes s found = goes_at s s.stage found

abbrev pub gives : Sweeping → ℕ → Option SweepEnd
gives s found = given (goes s found)

abbrev pub writes : Footprint
writes row.Page = true
writes row.Alloc = true
writes row.Mark = true
writes row.Tally = true
writes row.Live = true
writes row.Heap = true
writes _ = false

abbrev pub listing : Layout → Listing Sweeping SweepEnd
listing l = record { asks = asks l; goes = goes; given = given; sound = Sound l; writes = writes }
