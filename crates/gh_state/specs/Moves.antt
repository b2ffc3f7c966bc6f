-- The moves of the one state: those over the heap, those of a sweep, and the count of what was placed.
use Rattle.std.specs.Prelude.{◌≡◌, ℕ, ◌+◌, ◌/◌, ◌%◌, ◌^◌, ◌<◌, Bool, true, Option, None}
use Rattle.gh_state.specs.Vocabulary.{Arena, Cell, put, Row, seats_of, update, with_word, Words}
use Rattle.gh_base.specs.declared.cell.Ask.{Ask}
use Rattle.gh_heap.specs.Moves as heap
use Rattle.gh_heap.specs.Rights as rights
use Rattle.gh_sweep.specs.Moves as sweep
use Rattle.gh_sweep.specs.Moves.{slots_laid}
use Rattle.gh_state.specs.Shared.{seen_by_sweep, Shared, sweep_over, Told}

-- A change by one step, words and ghosts together.
pub data Move : Type 0 where
  -- a move over the heap, beside the sweep
  Deed : (m : heap.Move) → Move
  -- a move of a sweep
  Sweep : (m : sweep.Move) → Move
  -- the seat adds what it placed to the heap's count
  Count : Move

-- What a move over the heap does to the sweep's rows: a span that is laid has slots of its size, and an object that is made is of since, and is still to be counted.

abbrev pub slot_then : heap.Move → Row → Row
slot_then (heap.LayHead y) slot = slots_laid slot y.first y.head
slot_then _ slot = slot

abbrev pub since_then : heap.Move → (ℕ → Bool) → ℕ → Bool
since_then (heap.Make at g d t) since = update since at true
since_then _ since = since

abbrev pub pend_then : (a : ℕ) → heap.Move → (slot pend : Row) → Row
pend_then a (heap.Make at g d t) slot pend = with_word pend a (pend a + slot (at / 64))
pend_then a _ slot pend = pend

abbrev pub moved : Arena → (a : ℕ) → Shared → Move → Shared
moved z a s (Deed m) = record s { heap = heap.moved z a s.heap m; slot = slot_then m s.slot; since = since_then m s.since; pend = pend_then a m s.slot s.pend }
moved z a s (Sweep m) =
    let t = sweep.moved a (sweep_over s s.heap.words) m in
    record s { heap = record (s.heap) { words = t.words }; far = t.far; cut = t.cut; clear = t.clear; slot = t.slot; since = t.since; due = t.due; pend = t.pend }
moved z a s Count = record s { heap = record (s.heap) { words = put s.heap.words Cell.Heap ((s.heap.words Cell.Heap + s.pend a) % 2 ^ 64) }; pend = with_word s.pend a 0 }

-- When a seat may make the move.

-- the heap's count is the same, and so are the counts and marks of a sweep, while they are a sweep's
pub record CountsStay (told : Option Told) (words then : Words) : Type 0 where
  pub heap : then Cell.Heap ≡ words Cell.Heap
  pub tally : told ≡ None → then Cell.Tally ≡ words Cell.Tally
  pub live : told ≡ None → then Cell.Live ≡ words Cell.Live
  pub marks : told ≡ None → (i : ℕ) → then (Cell.Mark i) ≡ words (Cell.Mark i)

abbrev pub IsLoad : Ask → Type 0
IsLoad (Ask.Load c) = Unit {0}
IsLoad _ = ⊥

-- it is one of a sweep's own, which loads words besides
abbrev pub IsOfSweep : sweep.Move → Type 0
IsOfSweep (sweep.Quiet step) = IsLoad step
IsOfSweep (sweep.Starts p h) = Unit {0}
IsOfSweep (sweep.Cuts p h i) = Unit {0}
IsOfSweep (sweep.Clears p h i) = Unit {0}
IsOfSweep sweep.TellsTally = Unit {0}
IsOfSweep sweep.TellsLive = Unit {0}
IsOfSweep sweep.TellsHeap = Unit {0}
IsOfSweep (sweep.Ends p h) = Unit {0}
IsOfSweep _ = ⊥

pub record MayDeed (z : Arena) (a : ℕ) (s : Shared) (m : heap.Move) : Type 0 where
  pub seat : a < seats_of z.layout
  pub may : heap.May z a (rights.view s.heap) m
  pub counts : CountsStay s.told s.heap.words (heap.moved z a s.heap m).words

pub record MaySweep (z : Arena) (a : ℕ) (s : Shared) (m : sweep.Move) : Type 0 where
  pub quiet : s.told ≡ None
  pub of_sweep : IsOfSweep m
  pub may : sweep.May s.end a (seen_by_sweep s) m

abbrev pub May : Arena → (a : ℕ) → Shared → Move → Type 0
May z a s (Deed m) = MayDeed z a s m
May z a s (Sweep m) = MaySweep z a s m
May z a s Count = a < seats_of z.layout

-- What the moves of others leave to a seat: of the heap, and of the sweep.
pub record Others (z : Arena) (a : ℕ) (s t : Shared) : Type 0 where
  pub end : t.end ≡ s.end
  pub told : t.told ≡ s.told
  pub heap : heap.Others z a (rights.view s.heap) (rights.view t.heap)
  pub sweep : sweep.OthersLeave s.end a (seen_by_sweep s) (seen_by_sweep t)
