-- A sweep of a span over the one state.
use Rattle.std.specs.Prelude.{◌≡◌, ◌≢◌, ℕ, ◌+◌, ◌<◌, true, false, None}
use Rattle.gh_state.specs.Vocabulary.{Arena, asks, Cell, generation_of, goes, Head, is_busy, Leaves, numbered_by, opening, page_of, seats_of, SpanHead, Sweeping}
use Rattle.gh_base.specs.Steps.{cell_of, effect}
use Rattle.gh_heap.specs.Rights as rights
use Rattle.gh_sweep.specs.Moves as sweep
use Rattle.gh_sweep.specs.Sweepers.{IsAtRest, move_of, SweepFacts}
use Rattle.gh_state.specs.Good.{Good}
use Rattle.gh_state.specs.Moves.{May, moved, Others, Sweep}
use Rattle.gh_state.specs.Shared.{Shared, sweep_over}

-- What a step of a sweep leaves to who runs it: its rights over the heap, the objects, what a walk has seen, the heads of spans that somebody owns, and those of spans that nobody owns, up to their numbers.
pub record SweepKeeps (s t : Shared) : Type 0 where
  pub locked : t.heap.locked ≡ s.heap.locked
  pub holds : t.heap.holds ≡ s.heap.holds
  pub laying : t.heap.laying ≡ s.heap.laying
  pub freeing : t.heap.freeing ≡ s.heap.freeing
  pub place : t.heap.place ≡ s.heap.place
  pub ever : t.heap.ever ≡ s.heap.ever
  pub leaves : Leaves (rights.view s.heap) (rights.view t.heap)
  pub owned : (p : ℕ) (h : SpanHead) → h.owner ≢ 0 → page_of (s.heap.words (Cell.Page p)) ≡ Head h → page_of (t.heap.words (Cell.Page p)) ≡ Head h
  pub stands : (p : ℕ) (h : SpanHead) → h.owner ≡ 0 → page_of (s.heap.words (Cell.Page p)) ≡ Head h → (number : ℕ) × (page_of (t.heap.words (Cell.Page p)) ≡ Head (numbered_by number h))

abbrev pub SweepsLeave : Type 0
SweepsLeave = (z : Arena) (a : ℕ) (s : Shared) (m : sweep.Move) → Good z s → May z a s (Sweep m) → SweepKeeps s (moved z a s (Sweep m))

-- what is known of a sweep that the seat runs: no cycle is under way, and what gh_sweep says of it
pub record SweepRuns (a : ℕ) (s : Shared) (m : Sweeping) : Type 0 where
  pub quiet : s.told ≡ None
  pub fine : SweepFacts s.end a (sweep_over s s.heap.words) m

-- the seat runs none, and has told all
abbrev pub SeatSweepsNothing : (a : ℕ) → Shared → Type 0
SeatSweepsNothing a s = IsAtRest a (sweep_over s s.heap.words)

-- what a step of a sweep comes to, where it finds this: it is a move of the sweep, which the seat may make, and leads on
pub record GoesOn (z : Arena) (a : ℕ) (s : Shared) (m : Sweeping) (found : ℕ) : Type 0 where
  pub may : May z a s (Sweep (move_of m found))
  pub words_are : (moved z a s (Sweep (move_of m found))).heap.words ≡ effect s.heap.words (asks z.layout m)
  pub runs : SweepRuns a (moved z a s (Sweep (move_of m found))) (goes m found)
  pub keeps : SweepKeeps s (moved z a s (Sweep (move_of m found)))

pub record SweepsByTheState : Type 0 where
  -- it may be begun, by whomever, where the page's word is found to be the head of an unswept span
  pub opens : (z : Arena) (a : ℕ) (s : Shared) (p : ℕ) (h : SpanHead) → Good z s → s.told ≡ None → SeatSweepsNothing a s → page_of (s.heap.words (Cell.Page p)) ≡ Head h → h.number + 2 ≡ generation_of s.end → SweepRuns a s (opening p h)
  -- each of its steps is a move, and leads on
  pub own : (z : Arena) (a : ℕ) (s : Shared) (m : Sweeping) → Good z s → a < seats_of z.layout → SweepRuns a s m → is_busy m.stage ≡ true → GoesOn z a s m (s.heap.words (cell_of (asks z.layout m)))
  -- and what is known lasts
  pub last : (z : Arena) (a : ℕ) (s t : Shared) (m : Sweeping) → Others z a s t → SweepRuns a s m → SweepRuns a t m
  pub rests : (a : ℕ) (s : Shared) (m : Sweeping) → SweepRuns a s m → is_busy m.stage ≡ false → SeatSweepsNothing a s
