-- The moves by which an actor changes the shared state while spans are swept, when it may make them, and what they leave to the others.
use Rattle.std.specs.Prelude.{◌≡◌, ◌≢◌, ℕ, ◌+◌, ◌*◌, ◌/◌, ◌%◌, ◌^◌, ◌<◌, ◌≤◌, ◌⊎◌, true, ◌&&◌, if◌then◌else◌, bit_and, bit_or, nat_le, nat_lt}
use Rattle.gh_sweep.specs.Vocabulary.{alloc_words, Ask, Cell, cell_of, effect, FitsHead, Head, head_word, owned_by, page_of, page_words, put, Row, row_bit, seats_of, SpanHead, tally_word, with_word, Words}
use Rattle.gh_heap.specs.Moves.{update}
use Rattle.gh_sweep.specs.Bits.{freed_in, kept_in}
use Rattle.gh_sweep.specs.Facts.{HasNotNumber}
use Rattle.gh_sweep.specs.Listing.{bit_words, in_sweep, negative, once_swept, slot_bytes}
use Rattle.gh_sweep.specs.Shared.{AreDisjoint, By, CycleEnd, Done, Due, generation_of, Good, HasEnded, InSpan, nothing_due, Shared, view}

-- A change of the shared state by one step, words and ghosts together. A span is named by its first page and its head: where it is swept, the head as it was found unswept.
pub data Move : Type 0 where
  -- a step that changes no word of which anything is said here
  Quiet : (step : Ask) → Move
  -- a sweep of the span begins; word i of its alloc bits is cut to its marks, and its marks are cleared; the counts are told; the sweep ends
  Starts : (p : ℕ) → (h : SpanHead) → Move
  Cuts : (p : ℕ) → (h : SpanHead) → (i : ℕ) → Move
  Clears : (p : ℕ) → (h : SpanHead) → (i : ℕ) → Move
  TellsTally : Move
  TellsLive : Move
  TellsHeap : Move
  Ends : (p : ℕ) → (h : SpanHead) → Move
  -- a swept span passes to another owner, or to nobody
  Passes : (p : ℕ) → (h : SpanHead) → (owner : ℕ) → Move
  -- the head of a fresh span is laid, and that of a swept span without objects is freed
  Lays : (p : ℕ) → (h : SpanHead) → Move
  Frees : (p : ℕ) → (h : SpanHead) → Move
  -- the word of a page that is no span's first changes
  Turns : (p word : ℕ) → Move
  -- an object that begins at heap word x is placed, and its bytes are added to the heap's
  Places : (x : ℕ) → Move
  Counts : Move

-- what an actor has to tell once it has cut a word with so many objects kept and freed, of so many bytes each
abbrev pub with_word_cut : Due → (kept freed bytes : ℕ) → Due
with_word_cut d kept freed bytes = record { kept = d.kept + kept; freed = d.freed + freed; live = d.live + kept * bytes; cleared = d.cleared + freed * bytes }

-- the slots of the words of a span that is laid
abbrev pub slots_laid : Row → (p : ℕ) → SpanHead → Row
slots_laid slot p h i = if nat_le (16 * p) i && nat_lt i (16 * (p + h.pages)) then slot_bytes h else slot i

module _ (a : ℕ) (s : Shared) where
  -- word i of the bits is cut to its marks
  abbrev pub word_cut : ℕ → Shared
  word_cut i = record s {
    words = put s.words (Cell.Alloc i) (bit_and (s.words (Cell.Alloc i)) (s.words (Cell.Mark i)));
    cut = update s.cut i true;
    due = update s.due a (with_word_cut (s.due a) (kept_in (s.words (Cell.Alloc i)) (s.words (Cell.Mark i))) (freed_in (s.words (Cell.Alloc i)) (s.words (Cell.Mark i))) (s.slot i));
  }

  abbrev pub tally_told : Shared
  tally_told = record s {
    words = put s.words Cell.Tally ((s.words Cell.Tally + tally_word (record { marked = (s.due a).kept; freed = (s.due a).freed })) % 2 ^ 64);
    due = update s.due a (record (s.due a) { kept = 0; freed = 0 });
  }

  abbrev pub moved : Move → Shared
  moved (Quiet step) = record s { words = effect s.words step }
  moved (Starts p h) = record s { words = put s.words (Cell.Page p) (head_word (in_sweep h)); far = update s.far p (By a) }
  moved (Cuts p h i) = word_cut (16 * p + i)
  moved (Clears p h i) = record s { words = put s.words (Cell.Mark (16 * p + i)) 0; clear = update s.clear (16 * p + i) true }
  moved TellsTally = tally_told
  moved TellsLive = record s { words = put s.words Cell.Live ((s.words Cell.Live + (s.due a).live) % 2 ^ 64); due = update s.due a (record (s.due a) { live = 0 }) }
  moved TellsHeap = record s { words = put s.words Cell.Heap ((s.words Cell.Heap + negative (s.due a).cleared) % 2 ^ 64); due = update s.due a (record (s.due a) { cleared = 0 }) }
  moved (Ends p h) = record s { words = put s.words (Cell.Page p) (head_word (once_swept h)); far = update s.far p Done }
  moved (Passes p h owner) = record s { words = put s.words (Cell.Page p) (head_word (owned_by owner h)) }
  moved (Lays p h) = record s { words = put s.words (Cell.Page p) (head_word h); slot = slots_laid s.slot p h }
  moved (Frees p h) = record s { words = put s.words (Cell.Page p) 0 }
  moved (Turns p word) = record s { words = put s.words (Cell.Page p) word }
  moved (Places x) = record s {
    words = put s.words (Cell.Alloc (x / 64)) (bit_or (s.words (Cell.Alloc (x / 64))) (2 ^ (x % 64)));
    since = update s.since x true;
    pend = with_word s.pend a (s.pend a + s.slot (x / 64));
  }
  moved Counts = record s { words = put s.words Cell.Heap ((s.words Cell.Heap + s.pend a) % 2 ^ 64); pend = with_word s.pend a 0 }

-- When an actor may make the move.

-- rows of which nothing is said here
abbrev pub IsBesideSweeps : Cell → Type 0
IsBesideSweeps Cell.Gen = ⊥
IsBesideSweeps Cell.Heap = ⊥
IsBesideSweeps Cell.Tally = ⊥
IsBesideSweeps Cell.Live = ⊥
IsBesideSweeps (Cell.Page i) = ⊥
IsBesideSweeps (Cell.Alloc i) = ⊥
IsBesideSweeps (Cell.Mark i) = ⊥
IsBesideSweeps _ = Unit {0}

abbrev pub ChangesNothing : Ask → Type 0
ChangesNothing (Ask.Load c) = Unit {0}
ChangesNothing step = IsBesideSweeps (cell_of step)

-- The actor sweeps the span at page p, whose head was found to be h; it has cut so many of its words, and cleared the marks of so many.
pub record Sweeps (a p : ℕ) (h : SpanHead) (cut clear : ℕ) (s : Shared) : Type 0 where
  pub by : s.far p ≡ By a
  pub head : page_of (s.words (Cell.Page p)) ≡ Head (in_sweep h)
  pub are_cut : (i : ℕ) → i < bit_words h → s.cut (16 * p + i) ≡ nat_lt i cut
  pub are_clear : (i : ℕ) → i < bit_words h → s.clear (16 * p + i) ≡ nat_lt i clear

-- the page's word says this head, and its number is this
pub record HasHead (word generation : ℕ) (h : SpanHead) : Type 0 where
  pub head : page_of word ≡ Head h
  pub number : h.number ≡ generation

-- a head that may be laid: it has this number, and its pages are in the arena and in no span
pub record MayLay (e : CycleEnd) (page : Row) (p : ℕ) (h : SpanHead) : Type 0 where
  pub fits : FitsHead h
  pub number : h.number ≡ generation_of e
  pub within : p + h.pages ≤ e.layout.pages
  pub apart : (q : ℕ) (g : SpanHead) → page_of (page q) ≡ Head g → AreDisjoint p h q g

-- no alloc bit of the span is set
abbrev pub HasNoAllocBit : (alloc : Row) → (p : ℕ) → SpanHead → Type 0
HasNoAllocBit alloc p h = (i : ℕ) → 16 * p ≤ i → i < 16 * (p + h.pages) → alloc i ≡ 0

-- no object begins at heap word x, in a swept span
pub record MayPlace (e : CycleEnd) (page alloc : Row) (x : ℕ) : Type 0 where
  pub span : InSpan page (x / 64)
  pub swept : span.h.number ≡ generation_of e
  pub clear : row_bit alloc x ≡ 0

abbrev pub IsNoHead : (word : ℕ) → Type 0
IsNoHead word = (h : SpanHead) → page_of word ≢ Head h

module _ (e : CycleEnd) (a : ℕ) (s : Shared) where
  abbrev pub IsSeat : Type 0
  IsSeat = a < seats_of e.layout

  abbrev pub May : Move → Type 0
  May (Quiet step) = ChangesNothing step
  May (Starts p h) = (page_of (s.words (Cell.Page p)) ≡ Head h) × (h.number + 2 ≡ generation_of e)
  May (Cuts p h i) = IsSeat × Sweeps a p h i i s × (i < bit_words h)
  May (Clears p h i) = Sweeps a p h (i + 1) i s × (i < bit_words h)
  May TellsTally = IsSeat
  May TellsLive = IsSeat
  May TellsHeap = IsSeat
  May (Ends p h) = Sweeps a p h (bit_words h) (bit_words h) s × (s.due a ≡ nothing_due)
  May (Passes p h owner) = HasHead (s.words (Cell.Page p)) (generation_of e) h × (owner < 2 ^ 8)
  May (Lays p h) = MayLay e (page_words s.words) p h
  May (Frees p h) = HasHead (s.words (Cell.Page p)) (generation_of e) h × HasNoAllocBit (alloc_words s.words) p h
  May (Turns p word) = IsNoHead (s.words (Cell.Page p)) × IsNoHead word
  May (Places x) = IsSeat × MayPlace e (page_words s.words) (alloc_words s.words) x
  May Counts = IsSeat

-- What the moves of others leave to an actor.

-- a span that it sweeps
pub record SpanIsLeft (a p : ℕ) (h : SpanHead) (s t : Shared) : Type 0 where
  pub by : t.far p ≡ By a
  pub head : t.words (Cell.Page p) ≡ s.words (Cell.Page p)
  pub cut : (i : ℕ) → i < bit_words h → t.cut (16 * p + i) ≡ s.cut (16 * p + i)
  pub clear : (i : ℕ) → i < bit_words h → t.clear (16 * p + i) ≡ s.clear (16 * p + i)
  pub alloc : (i : ℕ) → i < bit_words h → t.words (Cell.Alloc (16 * p + i)) ≡ s.words (Cell.Alloc (16 * p + i))
  pub marks : (i : ℕ) → i < bit_words h → t.words (Cell.Mark (16 * p + i)) ≡ s.words (Cell.Mark (16 * p + i))

pub record OthersLeave (e : CycleEnd) (a : ℕ) (s t : Shared) : Type 0 where
  pub mine : (p : ℕ) (h : SpanHead) → s.far p ≡ By a → page_of (s.words (Cell.Page p)) ≡ Head (in_sweep h) → SpanIsLeft a p h s t
  -- no other has become its own
  pub back : (p : ℕ) → t.far p ≡ By a → s.far p ≡ By a
  pub done : (p : ℕ) → s.far p ≡ Done → t.far p ≡ Done
  -- where a page's word changes, it has no head of an unswept span
  pub heads : (p number : ℕ) → number + 2 ≡ generation_of e → (t.words (Cell.Page p) ≡ s.words (Cell.Page p)) ⊎ HasNotNumber number (t.words (Cell.Page p))
  pub due : t.due a ≡ s.due a
  pub pend : t.pend a ≡ s.pend a

-- The step that an actor asks for, which leaves these words, is this move, the actor may make it, and this holds then.
pub record Lands (e : CycleEnd) (a : ℕ) (s : Shared) (move : Move) (words : Words) (Then : Shared → Type 0) : Type 0 where
  pub may : May e a s move
  pub words_are : (moved a s move).words ≡ words
  pub after : Then (moved a s move)

-- Each move keeps what holds at every moment, and leaves this to every other actor.
abbrev pub EachMoveKeeps : Type 0
EachMoveKeeps = (e : CycleEnd) (a : ℕ) (s : Shared) (m : Move) → HasEnded e → Good e (view s) → May e a s m → Good e (view (moved a s m))

abbrev pub EachMoveLeaves : Type 0
EachMoveLeaves = (e : CycleEnd) (a b : ℕ) (s : Shared) (m : Move) → a ≢ b → HasEnded e → Good e (view s) → May e b s m → OthersLeave e a s (moved b s m)

-- a span that is swept stays so, and a page that is no span's first begins no other, whoever moves
abbrev pub DoneStays : Type 0
DoneStays = (e : CycleEnd) (a : ℕ) (s : Shared) (m : Move) (p : ℕ) → Good e (view s) → May e a s m → s.far p ≡ Done → (moved a s m).far p ≡ Done
