-- What the numbers of spans say, and which marks and objects a sweep has left, in every legal list of steps of all actors: over the words.
use Rattle.std.specs.Prelude.{◌≡◌, ◌≢◌, ◌↔◌, ℕ, ◌+◌, ◌*◌, ◌/◌, ◌<◌, ◌≤◌, ◌⊎◌, true, false, List, Option, Some}
use Rattle.gh_law.specs.Vocabulary.{actors_after, arena_of, at_seat, Cell, Coordinating, Entry, Ever, ever_after_list, first_words, IsBeginning, IsLedBy, IsPlacedAt, Name, only_polls, Op, Processor, Reach, Setup, Words, words_after}
use Rattle.gh_base.specs.declared.pack.PageWord.TheVariants.{Head}
use Rattle.gh_base.specs.declared.pack.SpanHead.{SpanHead}
use Rattle.gh_base.specs.Packing.{page_of}
use Rattle.gh_base.specs.Rows.{alloc_words, mark_words, page_words, row_bit}
use Rattle.gh_class.specs.declared.class.SpanClass.{SpanClass}
use Rattle.gh_alloc.specs.declared.sought.CachedSpan.{CachedSpan}
use Rattle.gh_alloc.specs.declared.sought.Sought.TheVariants.{Small}
use Rattle.gh_sweep.specs.Listing.{bit_words, Sweeping}
use Rattle.gh_sweep.specs.Shared.{InSpan}
use Rattle.gh_sweep.specs.Sound.{reached}
use Rattle.gh_sweep.specs.Sweepers.{has_span}
use Rattle.gh_coord.specs.Handshake as leading
use Rattle.gh_mutator.specs.declared.task.Task.{Task}
use Rattle.gh_mutator_heap.specs.Facts.{held_at}
use Rattle.gh_poll.specs.Local.{cached_in}
use Rattle.gh_holds.specs.Below.{sweep_of}

-- Spans.

-- A span is swept, and then its head has the number of the sweep generation; or nobody owns it, and it is unswept, or being swept.
abbrev pub SaysHowFar : (generation : ℕ) → SpanHead → Type 0
SaysHowFar generation h = (h.number ≡ generation) ⊎ ((h.owner ≡ 0) × ((h.number + 2 ≡ generation) ⊎ (h.number + 1 ≡ generation)))

-- each head says so of its span
abbrev pub SpansAreNumbered : Words → Type 0
SpansAreNumbered words = (p : ℕ) (h : SpanHead) → page_of (words (Cell.Page p)) ≡ Head h → SaysHowFar (words Cell.Gen) h

-- a span that somebody owns is swept
abbrev pub OwnedAreSwept : Words → Type 0
OwnedAreSwept words = (p : ℕ) (h : SpanHead) → page_of (words (Cell.Page p)) ≡ Head h → h.owner ≢ 0 → h.number ≡ words Cell.Gen

-- each span is
abbrev pub EachSpanIsSwept : Words → Type 0
EachSpanIsSwept words = (p : ℕ) (h : SpanHead) → page_of (words (Cell.Page p)) ≡ Head h → h.number ≡ words Cell.Gen

-- the processor rests, or runs a statement: it does not wait, poll or leave, and has not left
pub record IsRunning (t : Task) : Type 0 where
  pub runs : only_polls t ≡ false
  pub there : t ≢ Task.Left

-- the span that begins there is this seat's, and swept
pub record IsOwnSpan (words : Words) (a p : ℕ) : Type 0 where
  pub h : SpanHead
  pub head : page_of (words (Cell.Page p)) ≡ Head h
  pub owner : h.owner ≡ a + 1
  pub swept : h.number ≡ words Cell.Gen

-- so is each span that the processor has cached
abbrev pub CachedAreSwept : Words → (a : ℕ) → Processor → Type 0
CachedAreSwept words a m = IsRunning m.task → (c : SpanClass) (k : CachedSpan) → c.class < 25 → cached_in m.poll.local.cache (Small c) ≡ Some k → IsOwnSpan words a k.head

-- Whatever a processor is at, also in a poll, a wait or a leave, and once it has left: it holds what it has cached and has not given back yet, and the span of a large object that it makes. These are exactly the spans that are its own; so each is swept.
abbrev pub HoldsItsOwn : Words → (a : ℕ) → Processor → Type 0
HoldsItsOwn words a m = (p : ℕ) → (held_at m m.task p ≡ true) ↔ IsOwnSpan words a p

-- Marks.

-- the word of bits lies in the span that is being swept, and its alloc bits are not cut to the marks yet
pub record IsUncut (m : Sweeping) (i : ℕ) : Type 0 where
  pub begun : has_span m.stage ≡ true
  pub from : 16 * m.page + reached m.head m.stage ≤ i
  pub below : i < 16 * m.page + bit_words m.head

-- The marks while no cycle is marked: those that a cycle has left, as far as they are not swept.
pub record MarksAreLeft (words : Words) (ever : Ever) (sweeps : ℕ → Option Sweeping) : Type 0 where
  -- a word of marks that lies in no span, or in a swept one, is 0
  pub cleared : (i : ℕ) → ((s : InSpan (page_words words) i) → s.h.number ≡ words Cell.Gen) → words (Cell.Mark i) ≡ 0
  -- in an unswept span each object that a script reaches is marked
  pub unswept : (n : Name) (a : ℕ) → Reach ever n → IsPlacedAt words n a → (s : InSpan (page_words words) (a / 64)) → s.h.number + 2 ≡ words Cell.Gen → row_bit (mark_words words) a ≡ 1
  -- and so it is in a span that is being swept, in the words that the sweep has not reached
  pub uncut : (n : Name) (a who : ℕ) (m : Sweeping) → Reach ever n → IsPlacedAt words n a → sweeps who ≡ Some m → IsUncut m (a / 64) → row_bit (mark_words words) a ≡ 1
  -- what is marked is an object that stands
  pub stand : (x : ℕ) → row_bit (mark_words words) x ≡ 1 → row_bit (alloc_words words) x ≡ 1

-- After a list.
module _ (setup : Setup) (es : List (Entry Op)) where
  abbrev told : Words
  told = words_after (first_words setup) es

  pub record SweepsStand : Type 0 where
    pub numbers : SpansAreNumbered told
    pub owned : OwnedAreSwept told
    pub cached : (a : ℕ) → a < setup.layout.procs → CachedAreSwept told a (at_seat (arena_of setup.shapes setup.layout) (first_words setup) es a)
    pub held : (a : ℕ) → a < setup.layout.procs → HoldsItsOwn told a (at_seat (arena_of setup.shapes setup.layout) (first_words setup) es a)
    -- a cycle begins and is marked once each span is swept
    pub marked : (c : Coordinating) → IsLedBy (arena_of setup.shapes setup.layout) setup.pacing setup.may es c → IsBeginning c.stage ⊎ leading.Marks c.stage → EachSpanIsSwept told
    pub marks : (c : Coordinating) → IsLedBy (arena_of setup.shapes setup.layout) setup.pacing setup.may es c → (leading.Marks c.stage → ⊥) → MarksAreLeft told (ever_after_list (arena_of setup.shapes setup.layout) (first_words setup) es) (λ who. sweep_of (actors_after (arena_of setup.shapes setup.layout) setup.pacing setup.may es who))
