-- The words while any number of actors sweep the spans that a cycle has left unswept, and others take spans and place objects: the ghosts beside the words, and what holds at every moment.
use Rattle.std.specs.Prelude.{◌≡◌, ◌≢◌, ℕ, ◌+◌, ◌*◌, ◌/◌, ◌^◌, ◌<◌, ◌≤◌, ◌⊎◌, Bool, true, false, if◌then◌else◌, count_ones}
use Rattle.gh_sweep.specs.Vocabulary.{alloc_words, Body, Cell, FitsHead, Free, Head, head_word, Layout, mark_words, page_of, page_words, PageWord, Row, row_bit, seats_of, SpanHead, tally_of, Words}
use Rattle.gh_sweep.specs.Bits.{freed_in, kept_in, sum_below}
use Rattle.gh_sweep.specs.Counts.{AreWords}
use Rattle.gh_sweep.specs.Listing.{slot_bytes}

-- Where a cycle ended, when the next sweep generation was stored: the words, the bytes of a slot of the span that each word of bits lies in, and which objects are of since, by the heap word that they begin at. Those are what the sweep may leave: each marked object is one, and so may others be that a script reached where the cycle began, or that were made since then.
pub record CycleEnd : Type 0 where
  pub layout : Layout
  pub words : Words
  pub slot : Row
  pub since : ℕ → Bool

abbrev pub generation_of : CycleEnd → ℕ
generation_of e = e.words Cell.Gen

abbrev pub alloc_at : CycleEnd → Row
alloc_at e = alloc_words e.words

abbrev pub marks_at : CycleEnd → Row
marks_at e = mark_words e.words

-- the words of a row that has a bit for each heap word
abbrev pub bit_words_of : CycleEnd → ℕ
bit_words_of e = 16 * e.layout.pages

-- The ghosts.

-- how far a span is, by its first page: it is unswept, the actor at this seat sweeps it, or it is swept; and so is any page that is no span's first
pub data Far : Type 0 where
  Unswept : Far
  By : (a : ℕ) → Far
  Done : Far

-- what an actor has yet to tell: the objects kept and freed and their bytes
pub record Due : Type 0 where
  pub kept : ℕ
  pub freed : ℕ
  pub live : ℕ
  pub cleared : ℕ

abbrev pub nothing_due : Due
nothing_due = record { kept = 0; freed = 0; live = 0; cleared = 0 }

-- The words; by first page, how far each span is; by word of bits, whether its alloc bits are cut to the marks, whether its marks are cleared (a word in no unswept span needs neither), and the bytes of a slot of the span that it lies in; by heap word, whether the object that begins there is of since; and by seat, what the actor has yet to tell, and the bytes that it placed and has not counted.
pub record Shared : Type 0 where
  pub words : Words
  pub far : ℕ → Far
  pub cut : ℕ → Bool
  pub clear : ℕ → Bool
  pub slot : Row
  pub since : ℕ → Bool
  pub due : ℕ → Due
  pub pend : Row

-- What is said of the shared state is said of this: of the words only the rows of which something is said.
pub record View : Type 0 where
  pub generation : ℕ
  pub heap : ℕ
  pub tally : ℕ
  pub live : ℕ
  pub page : Row
  pub alloc : Row
  pub mark : Row
  pub far : ℕ → Far
  pub cut : ℕ → Bool
  pub clear : ℕ → Bool
  pub slot : Row
  pub since : ℕ → Bool
  pub due : ℕ → Due
  pub pend : Row

abbrev pub view : Shared → View
view s = record {
  generation = s.words Cell.Gen;
  heap = s.words Cell.Heap;
  tally = s.words Cell.Tally;
  live = s.words Cell.Live;
  page = page_words s.words;
  alloc = alloc_words s.words;
  mark = mark_words s.words;
  far = s.far;
  cut = s.cut;
  clear = s.clear;
  slot = s.slot;
  since = s.since;
  due = s.due;
  pend = s.pend;
}

-- Pages and spans.

-- word i of the bits lies in the span at page p
pub record InSpan (page : Row) (i : ℕ) : Type 0 where
  pub p : ℕ
  pub h : SpanHead
  pub head : page_of (page p) ≡ Head h
  pub from : 16 * p ≤ i
  pub below : i < 16 * (p + h.pages)

-- a head is packed, each number fits its bits, and the span lies in the arena
pub record IsHeadIn (pages : ℕ) (word p : ℕ) (h : SpanHead) : Type 0 where
  pub packed : word ≡ head_word h
  pub fits : FitsHead h
  pub within : p + h.pages ≤ pages

abbrev pub HeadsGood : (pages : ℕ) → Row → Type 0
HeadsGood pages page = (p : ℕ) (h : SpanHead) → page_of (page p) ≡ Head h → IsHeadIn pages (page p) p h

-- spans with these first pages and heads have no page in common
abbrev pub AreDisjoint : (p : ℕ) (h : SpanHead) (q : ℕ) (g : SpanHead) → Type 0
AreDisjoint p h q g = (p + h.pages ≤ q) ⊎ (q + g.pages ≤ p)

abbrev pub ApartGood : Row → Type 0
ApartGood page = (p q : ℕ) (h g : SpanHead) → page_of (page p) ≡ Head h → page_of (page q) ≡ Head g → p ≢ q → AreDisjoint p h q g

-- A head's number says how far its span is, and an owner has a swept span alone.
abbrev pub IsNumbered : (generation : ℕ) → SpanHead → Far → Type 0
IsNumbered generation h Unswept = (h.number + 2 ≡ generation) × (h.owner ≡ 0)
IsNumbered generation h (By a) = (h.number + 1 ≡ generation) × (h.owner ≡ 0)
IsNumbered generation h Done = h.number ≡ generation

abbrev pub SaysFar : (generation : ℕ) → PageWord → Far → Type 0
SaysFar generation Free f = f ≡ Done
SaysFar generation (Head h) f = IsNumbered generation h f
SaysFar generation (Body b) f = f ≡ Done

abbrev pub NumbersGood : (generation : ℕ) → Row → (ℕ → Far) → Type 0
NumbersGood generation page far = (p : ℕ) → SaysFar generation (page_of (page p)) (far p)

-- Words of bits.

-- none of an unswept span is cut or cleared
abbrev pub UntouchedGood : Row → (ℕ → Far) → (cut clear : ℕ → Bool) → Type 0
UntouchedGood page far cut clear = (i : ℕ) (s : InSpan page i) → far s.p ≡ Unswept → (cut i ≡ false) × (clear i ≡ false)

-- one whose marks are not cleared lies in a span that is not swept
pub record IsLeft (page : Row) (far : ℕ → Far) (i : ℕ) : Type 0 where
  pub span : InSpan page i
  pub unswept : far span.p ≢ Done

abbrev pub LeftGood : Row → (ℕ → Far) → (clear : ℕ → Bool) → Type 0
LeftGood page far clear = (i : ℕ) → clear i ≡ false → IsLeft page far i

-- marks are cleared behind the alloc bits
abbrev pub OrderGood : (cut clear : ℕ → Bool) → Type 0
OrderGood cut clear = (i : ℕ) → clear i ≡ true → cut i ≡ true

-- marks that are not cleared are as they were
abbrev pub UnclearedMarksStand : (was mark : Row) → (clear : ℕ → Bool) → Type 0
UnclearedMarksStand was mark clear = (i : ℕ) → mark i ≡ (if clear i then 0 else was i)

-- what is not cut is as it was
abbrev pub UncutGood : (was row : Row) → (cut : ℕ → Bool) → Type 0
UncutGood was row cut = (i : ℕ) → cut i ≡ false → row i ≡ was i

-- each slot has the bytes that its span's head says, and few
abbrev pub SlotsGood : Row → (slot : Row) → Type 0
SlotsGood page slot = (i : ℕ) (s : InSpan page i) → slot i ≡ slot_bytes s.h

abbrev pub FewGood : (slot : Row) → Type 0
FewGood slot = (i : ℕ) → slot i ≤ 2 ^ 26

-- objects stand in spans alone
abbrev pub InsideGood : Row → (alloc : Row) → Type 0
InsideGood page alloc = (i : ℕ) → alloc i ≢ 0 → InSpan page i

-- Objects.

-- a marked object stands
abbrev pub StandGood : (was alloc : Row) → Type 0
StandGood was alloc = (x : ℕ) → row_bit was x ≡ 1 → row_bit alloc x ≡ 1

-- and is one of since
abbrev pub KnownGood : (was : Row) → (since : ℕ → Bool) → Type 0
KnownGood was since = (x : ℕ) → row_bit was x ≡ 1 → since x ≡ true

-- in words that are cut only objects of since stand
abbrev pub SinceGood : (alloc : Row) → (cut : ℕ → Bool) → (since : ℕ → Bool) → Type 0
SinceGood alloc cut since = (x : ℕ) → cut (x / 64) ≡ true → row_bit alloc x ≡ 1 → since x ≡ true

-- Counts.

-- who sweeps no span has nothing to tell
abbrev pub DueGood : (ℕ → Far) → (ℕ → Due) → Type 0
DueGood far due = (a : ℕ) → ((p : ℕ) → far p ≢ By a) → due a ≡ nothing_due

-- what all actors have yet to tell
abbrev pub owed : (Due → ℕ) → (ℕ → Due) → (seats : ℕ) → ℕ
owed part due seats = sum_below (λ a. part (due a)) seats

-- what is in the words that are not cut, of so much in each word
abbrev pub left_uncut : (ℕ → ℕ) → (cut : ℕ → Bool) → (words : ℕ) → ℕ
left_uncut each cut words = sum_below (λ i. if cut i then 0 else each i) words

-- the objects of a word that were marked where the cycle ended, those that were not, and their bytes
abbrev pub kept_at : CycleEnd → ℕ → ℕ
kept_at e i = kept_in (alloc_at e i) (marks_at e i)

abbrev pub freed_at : CycleEnd → ℕ → ℕ
freed_at e i = freed_in (alloc_at e i) (marks_at e i)

abbrev pub live_at : CycleEnd → ℕ → ℕ
live_at e i = kept_at e i * e.slot i

abbrev pub cleared_at : CycleEnd → ℕ → ℕ
cleared_at e i = freed_at e i * e.slot i

-- and in all words
abbrev pub in_all : CycleEnd → (ℕ → ℕ) → ℕ
in_all e each = sum_below each (bit_words_of e)

-- what the tally's word tells, what is untold and what is unswept are the objects where the cycle ended
pub record TallyGood (e : CycleEnd) (word : ℕ) (cut : ℕ → Bool) (due : ℕ → Due) : Type 0 where
  pub marked : (tally_of word).marked + owed (λ d. d.kept) due (seats_of e.layout) + left_uncut (kept_at e) cut (bit_words_of e) ≡ in_all e (kept_at e)
  pub freed : (tally_of word).freed + owed (λ d. d.freed) due (seats_of e.layout) + left_uncut (freed_at e) cut (bit_words_of e) ≡ in_all e (freed_at e)

-- so are the bytes of those kept
abbrev pub LiveGood : CycleEnd → (word : ℕ) → (cut : ℕ → Bool) → (ℕ → Due) → Type 0
LiveGood e word cut due = word + owed (λ d. d.live) due (seats_of e.layout) + left_uncut (live_at e) cut (bit_words_of e) ≡ in_all e (live_at e)

-- the bytes of the objects that stand
abbrev pub placed_in : (alloc slot : Row) → ℕ → ℕ
placed_in alloc slot i = count_ones (alloc i) * slot i

abbrev pub placed : (alloc slot : Row) → (words : ℕ) → ℕ
placed alloc slot words = sum_below (placed_in alloc slot) words

-- and of those in words that are cut
abbrev pub placed_behind : (alloc slot : Row) → (cut : ℕ → Bool) → (words : ℕ) → ℕ
placed_behind alloc slot cut words = sum_below (λ i. if cut i then placed_in alloc slot i else 0) words

pub record HeapGood (e : CycleEnd) (word : ℕ) (alloc slot : Row) (cut : ℕ → Bool) (due : ℕ → Due) (pend : Row) : Type 0 where
  -- the heap's count and what was placed and not counted are the bytes that stand and those freed and not taken off
  pub heap : word + sum_below pend (seats_of e.layout) ≡ placed alloc slot (bit_words_of e) + owed (λ d. d.cleared) due (seats_of e.layout)
  -- what was not counted stands in words that are cut
  pub pending : sum_below pend (seats_of e.layout) ≤ placed_behind alloc slot cut (bit_words_of e)
  -- what is not taken off was freed
  pub freed : owed (λ d. d.cleared) due (seats_of e.layout) + left_uncut (cleared_at e) cut (bit_words_of e) ≤ in_all e (cleared_at e)

pub record Good (e : CycleEnd) (v : View) : Type 0 where
  pub generation : v.generation ≡ generation_of e
  pub heads : HeadsGood e.layout.pages v.page
  pub apart : ApartGood v.page
  pub numbers : NumbersGood (generation_of e) v.page v.far
  pub untouched : UntouchedGood v.page v.far v.cut v.clear
  pub unswept : LeftGood v.page v.far v.clear
  pub order : OrderGood v.cut v.clear
  pub marks : UnclearedMarksStand (marks_at e) v.mark v.clear
  pub uncut : UncutGood (alloc_at e) v.alloc v.cut
  pub uncut_slots : UncutGood e.slot v.slot v.cut
  pub slots : SlotsGood v.page v.slot
  pub few : FewGood v.slot
  pub inside : InsideGood v.page v.alloc
  pub fits : AreWords v.alloc
  pub stand : StandGood (marks_at e) v.alloc
  pub known : KnownGood (marks_at e) v.since
  pub only_since : SinceGood v.alloc v.cut v.since
  pub told : DueGood v.far v.due
  pub tallied : TallyGood e v.tally v.cut v.due
  pub lives : LiveGood e v.live v.cut v.due
  pub counted : HeapGood e v.heap v.alloc v.slot v.cut v.due v.pend

-- What holds where a cycle has ended. The world is stopped: nobody owns a span, each is unswept and its marks are of its objects, and nothing is counted yet.
pub record HasEnded (e : CycleEnd) : Type 0 where
  pub generation : generation_of e < 2 ^ 34
  pub heads : HeadsGood e.layout.pages (page_words e.words)
  pub apart : ApartGood (page_words e.words)
  pub numbers : (p : ℕ) (h : SpanHead) → page_of (page_words e.words p) ≡ Head h → IsNumbered (generation_of e) h Unswept
  -- no bit is set outside of spans
  pub outside : (i : ℕ) → (InSpan (page_words e.words) i → ⊥) → (alloc_at e i ≡ 0) × (marks_at e i ≡ 0)
  pub slots : SlotsGood (page_words e.words) e.slot
  pub few : FewGood e.slot
  pub alloc_fits : AreWords (alloc_at e)
  pub marks_fit : AreWords (marks_at e)
  -- marked objects stand, and are of since
  pub stand : StandGood (marks_at e) (alloc_at e)
  pub known : KnownGood (marks_at e) e.since
  pub tally : e.words Cell.Tally ≡ 0
  pub live : e.words Cell.Live ≡ 0
  pub heap : e.words Cell.Heap ≡ placed (alloc_at e) e.slot (bit_words_of e)
