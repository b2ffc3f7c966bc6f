-- Where a cycle opens and where it ends, as changes of the one state; and what the state says once all spans are swept.
use Rattle.std.specs.Prelude.{◌≡◌, ℕ, ◌+◌, ◌*◌, ◌^◌, ◌<◌, true, false, Some, None}
use Rattle.gh_state.specs.Vocabulary.{alloc_at, alloc_words, Arena, bit_words_of, Cell, CycleEnd, freed_at, Head, in_all, kept_at, live_at, mark_words, marks_at, Name, opening_words, page_of, page_words, placed, put, Reach, row_bit, seats_of, SpanHead, StandGood, tally_of, Words}
use Rattle.gh_base.specs.declared.layout.Layout.{Layout}
use Rattle.gh_heap.specs.Rights as rights
use Rattle.gh_sweep.specs.AtEnd.{at_end}
use Rattle.gh_sweep.specs.Bits.{sum_below}
use Rattle.gh_sweep.specs.Counts.{AreWords, is_set, marked_objects, unmarked_objects}
use Rattle.gh_state.specs.Good.{Good}
use Rattle.gh_state.specs.Shared.{Shared, Told}
use Rattle.gh_state.specs.Slots.{slot_row}

-- each head has the number of the sweep generation
abbrev pub AreSwept : Shared → Type 0
AreSwept s = (p : ℕ) (h : SpanHead) → page_of (s.heap.words (Cell.Page p)) ≡ Head h → h.number ≡ s.heap.words Cell.Gen

-- The opening. No word changes: from here on marks are not a sweep's, and the counts may be cleared.
abbrev pub opened : Shared → Shared
opened s = record s { told = Some (record { tally = s.heap.words Cell.Tally; live = s.heap.words Cell.Live }) }

pub record Opens (z : Arena) (s : Shared) : Type 0 where
  pub good : Good z (opened s)
  -- no mark is set
  pub marks : (i : ℕ) → s.heap.words (Cell.Mark i) ≡ 0

abbrev pub CyclesOpen : Type 0
CyclesOpen = (z : Arena) (s : Shared) → Good z s → s.told ≡ None → AreSwept s → Opens z s

-- The end. The world is stopped: nobody holds a span, lays one out or frees one; all that was placed is counted; marks are of objects that stand, what a script reaches among them; and nothing of the next sweep is counted.
pub record IsOver (s : Shared) : Type 0 where
  pub counts : Told
  pub under_way : s.told ≡ Some counts
  pub none_held : (a p : ℕ) → s.heap.holds a p ≡ false
  pub none_laid : (a : ℕ) → s.heap.laying a ≡ None
  pub none_freed : (a : ℕ) → s.heap.freeing a ≡ None
  pub owes_none : (a : ℕ) → s.pend a ≡ 0
  pub stand : StandGood (mark_words s.heap.words) (alloc_words s.heap.words)
  pub marks_fit : AreWords (mark_words s.heap.words)
  pub reached : (n : Name) → Reach s.heap.ever n → row_bit (mark_words s.heap.words) (s.heap.place n) ≡ 1
  pub tally : s.heap.words Cell.Tally ≡ 0
  pub live : s.heap.words Cell.Live ≡ 0
  pub room : s.heap.words Cell.Gen + 2 < 2 ^ 34

-- the words once the next sweep generation is stored
abbrev pub next_words : Words → Words
next_words words = put words Cell.Gen (words Cell.Gen + 2)

-- the objects of since are those that are marked then
abbrev pub end_of : Shared → CycleEnd
end_of s = record { layout = s.end.layout; words = next_words s.heap.words; slot = s.slot; since = λ x. is_set (mark_words s.heap.words) x }

-- each span is unswept then
abbrev pub cycle_ended : Shared → Shared
cycle_ended s =
    let w = at_end (end_of s) in
    record { heap = record (s.heap) { words = next_words s.heap.words }; told = None; end = end_of s; far = w.far; cut = w.cut; clear = w.clear; slot = w.slot; since = w.since; due = w.due; pend = w.pend }

abbrev pub CyclesEnd : Type 0
CyclesEnd = (z : Arena) (s : Shared) → Good z s → IsOver s → Good z (cycle_ended s)

-- A heap opens as one where a cycle has ended of which no object is left.
abbrev pub opening_end : Layout → (trigger : ℕ) → CycleEnd
opening_end l trigger = record { layout = l; words = opening_words l trigger; slot = λ i. 0; since = λ x. false }

abbrev pub opening : Arena → rights.Shared → (trigger : ℕ) → Shared
opening z h trigger =
    let w = at_end (opening_end z.layout trigger) in
    record { heap = record h { words = opening_words z.layout trigger }; told = None; end = opening_end z.layout trigger; far = w.far; cut = w.cut; clear = w.clear; slot = w.slot; since = w.since; due = w.due; pend = w.pend }

abbrev pub HeapsOpen : Type 0
HeapsOpen = (z : Arena) (h : rights.Shared) (trigger : ℕ) → rights.Good z (rights.view (record h { words = opening_words z.layout trigger })) → ((n : Name) → Reach h.ever n → ⊥) → Good z (opening z h trigger)

-- Once all is swept.
pub record AllIsTold (s : Shared) : Type 0 where
  -- only objects of since stand, and no mark is set
  pub objects : (x : ℕ) → row_bit (alloc_words s.heap.words) x ≡ 1 → s.since x ≡ true
  pub marks : (i : ℕ) → s.heap.words (Cell.Mark i) ≡ 0
  -- the counts are those where the cycle ended, whatever was placed since
  pub marked : (tally_of (s.heap.words Cell.Tally)).marked ≡ in_all s.end (kept_at s.end)
  pub freed : (tally_of (s.heap.words Cell.Tally)).freed ≡ in_all s.end (freed_at s.end)
  pub live : s.heap.words Cell.Live ≡ in_all s.end (live_at s.end)
  pub heap : s.heap.words Cell.Heap + sum_below s.pend (seats_of s.end.layout) ≡ placed (alloc_words s.heap.words) s.slot (bit_words_of s.end)

abbrev pub TheSweepIsTold : Type 0
TheSweepIsTold = (z : Arena) (s : Shared) → Good z s → s.told ≡ None → AreSwept s → AllIsTold s

-- The counts once all is swept: the objects that were marked where the cycle ended and those that were not, and the bytes of the slots that are taken.
pub record CountsAreExact (e : CycleEnd) (words : Words) : Type 0 where
  pub marked : (tally_of (words Cell.Tally)).marked ≡ marked_objects (alloc_at e) (marks_at e) 0 e.layout.pages
  pub freed : (tally_of (words Cell.Tally)).freed ≡ unmarked_objects (alloc_at e) (marks_at e) 0 e.layout.pages
  pub live : words Cell.Live ≡ placed (alloc_words words) (slot_row (page_words words)) (16 * e.layout.pages)

-- nothing was laid out and nothing made since the cycle ended, and nobody frees the pages of a span
pub record IsAsItEnded (s : Shared) : Type 0 where
  pub none_freed : (a : ℕ) → s.heap.freeing a ≡ None
  pub slots : (i : ℕ) → s.slot i ≡ s.end.slot i
  pub since : (x : ℕ) → s.since x ≡ true → row_bit (marks_at s.end) x ≡ 1

abbrev pub CountsAreTold : Type 0
CountsAreTold = (z : Arena) (s : Shared) → Good z s → s.told ≡ None → AreSwept s → IsAsItEnded s → CountsAreExact s.end s.heap.words
