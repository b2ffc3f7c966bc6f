-- A sweep over the one state.
use Rattle.std.proofs.Common.{◌≡◌, ℕ, ◌+◌, ◌*◌, ◌<◌, true, refl, sym, subst, ◌∙◌, Option, None, arith}
use Rattle.gh_state.proofs.Vocabulary.{Arena, asks, Cell, cell_of, effect, generation_of, goes, GoesOn, Good, Head, is_busy, IsOfSweep, Layout, marks_in, May, Others, OthersLeave, page_of, seats_of, SeatSweepsNothing, seen_by_sweep, Shared, SpanHead, Sweep, sweep_over, Sweeping, SweepRuns, Sweeps, SweepsByTheState, SweepsLeave, Told}
use Rattle.gh_sweep.specs.Listing.{opening}
use Rattle.gh_sweep.specs.Moves as sweep
use Rattle.gh_sweep.specs.Shared as spans
use Rattle.gh_sweep.specs.Sweepers.{move_of, SweepFacts, SweepsAmongOthers}

-- the moves of a sweep

pub moves_so : (m : Sweeping) (found : ℕ) → IsOfSweep (move_of m found)
moves_so m found = grind arith

-- While no cycle is marked, the words as a sweep reads them are the words.

module _ (z : Arena) (a : ℕ) (was : Shared) where
  abbrev s : Shared
  s = record was { told = None }

  abbrev raw : Sweeps
  raw = sweep_over s s.heap.words

  may_here : (m : sweep.Move) → IsOfSweep m → sweep.May s.end a raw m → sweep.May s.end a (seen_by_sweep s) m
  may_here m of may = grind arith

  raw_good : Good z s → spans.Good s.end (spans.view raw)
  raw_good g = g.sweep

  module _ (k : SweepsAmongOthers) (leave : SweepsLeave) (g : Good z s) (seat : a < seats_of z.layout) (m : Sweeping) (fine : SweepFacts s.end a raw m) (busy : is_busy m.stage ≡ true) where
    abbrev found : ℕ
    found = s.heap.words (cell_of (asks z.layout m))

    abbrev LandsIn : Layout → Type 0
    LandsIn l = let f = s.heap.words (cell_of (asks l m)) in sweep.Lands s.end a raw (move_of m f) (effect s.heap.words (asks l m)) (λ t. SweepFacts s.end a t (goes m f))

    lands : LandsIn z.layout
    lands = subst LandsIn g.layout (k.own s.end a raw m g.ended (raw_good g) (subst (λ (x : Layout). a < seats_of x) (sym g.layout) seat) fine busy)

    allowed : May z a s (Sweep (move_of m found))
    allowed = grind (arith, lands, may_here, moves_so)

    pub own_here : GoesOn z a s m found
    own_here = record {
      may = allowed;
      words_are = lands.words_are;
      runs = record { quiet = refl; fine = lands.after };
      keeps = leave z a s (move_of m found) g allowed;
    }

-- what others leave of it
unhushed : (a : ℕ) (s t : Shared) → s.told ≡ None → t.told ≡ None → OthersLeave s.end a (seen_by_sweep s) (seen_by_sweep t) → OthersLeave s.end a (sweep_over s s.heap.words) (sweep_over t t.heap.words)
unhushed a s t is then o = record {
  mine = λ p h by head. let m = o.mine p h by head in record { by = m.by; head = m.head; cut = m.cut; clear = m.clear; alloc = m.alloc; marks = λ i l. marks (16 * p + i) s.told t.told is then (m.marks i l) };
  back = o.back;
  done = o.done;
  heads = o.heads;
  due = o.due;
  pend = o.pend;
} where
  marks : (i : ℕ) (b c : Option Told) → b ≡ None → c ≡ None → marks_in c (t.heap.words (Cell.Mark i)) ≡ marks_in b (s.heap.words (Cell.Mark i)) → t.heap.words (Cell.Mark i) ≡ s.heap.words (Cell.Mark i)
  marks i b c e f same = grind arith

last_here : SweepsAmongOthers → (z : Arena) (a : ℕ) (s t : Shared) (m : Sweeping) → Others z a s t → SweepRuns a s m → SweepRuns a t m
last_here k z a s t m o r =
    let then : t.told ≡ None = o.told ∙ r.quiet in
    record { quiet = then; fine = subst (λ x. SweepFacts x a (sweep_over t t.heap.words) m) (sym o.end) (k.last s.end a (sweep_over s s.heap.words) (sweep_over t t.heap.words) m (unhushed a s t r.quiet then o.sweep) r.fine) }

pub sweeps : SweepsAmongOthers → SweepsLeave → SweepsByTheState
sweeps k leave = record {
  opens = λ z a s p h g quiet rests head number. record { quiet = quiet; fine = opens_here z a s p h g quiet rests head number };
  own = λ z a s m g seat r busy. own_at z a s m g seat r busy;
  last = last_here k;
  rests = λ a s m r busy. k.rests s.end a (sweep_over s s.heap.words) m r.fine busy;
} where
  opens_here : (z : Arena) (a : ℕ) (s : Shared) (p : ℕ) (h : SpanHead) → Good z s → s.told ≡ None → SeatSweepsNothing a s → page_of (s.heap.words (Cell.Page p)) ≡ Head h → h.number + 2 ≡ generation_of s.end → SweepFacts s.end a (sweep_over s s.heap.words) (opening p h)
  opens_here z a s p h g quiet rests head number =
      subst (λ (b : Option Told). Good z (record s { told = b }) → SweepFacts s.end a (sweep_over s s.heap.words) (opening p h)) (sym quiet)
      (λ good. k.opens s.end a (sweep_over s s.heap.words) p h good.ended (raw_good z a s good) rests head number) g

  own_at : (z : Arena) (a : ℕ) (s : Shared) (m : Sweeping) → Good z s → a < seats_of z.layout → SweepRuns a s m → is_busy m.stage ≡ true → GoesOn z a s m (s.heap.words (cell_of (asks z.layout m)))
  own_at z a s m g seat r busy =
      subst (λ (b : Option Told). Good z (record s { told = b }) → GoesOn z a (record s { told = b }) m (s.heap.words (cell_of (asks z.layout m)))) (sym r.quiet)
      (λ good. own_here z a s k leave good seat m r.fine busy) g
