-- Each move keeps what holds at every moment.
use Rattle.std.proofs.Common.{◌≡◌, ◌≢◌, ℕ, ◌+◌, ◌*◌, ◌/◌, ◌%◌, ◌<◌, Bool, true, false, refl, sym, ap, subst, ◌∙◌, arith, inl, inr, Option, None}
use Rattle.std.proofs.lemmas.Bool.{le-ltb}
use Rattle.gh_state.proofs.Vocabulary.{Arena, Ask, bit_at, By, Cell, Count, Deed, EachMoveKeeps, eqb_tells, generation_of, Good, Head, in_sweep, IsKept, IsOfSweep, IsSpan, Layout, marks_at, May, MaySweep, moved, Name, page_of, Reach, ReachedAreMarked, SaysFar, seats_of, seen_by_sweep, Shared, SpanHead, Sweep, Told, update}
use Rattle.gh_heap.specs.Moves as heap
use Rattle.gh_heap.specs.Rights as rights
use Rattle.gh_sweep.specs.Listing.{bit_words}
use Rattle.gh_sweep.specs.Moves as sweep
use Rattle.gh_sweep.specs.Shared as spans
use Rattle.gh_state.proofs.Beside.{deed}
use Rattle.gh_state.proofs.Known.{Known}

-- A move of a sweep. No cycle is marked then, so the marks are those of the sweep.
module _ (k : Known) (z : Arena) (a : ℕ) (was : Shared) (g : Good z (record was { told = None })) where
  abbrev s : Shared
  s = record was { told = None }

  abbrev v : rights.View
  v = rights.view s.heap

  abbrev gen : ℕ
  gen = generation_of s.end

  by : (m : sweep.Move) → sweep.May s.end a (seen_by_sweep s) m → spans.Good s.end (spans.view (sweep.moved a (seen_by_sweep s) m))
  by m may = k.sweep s.end a (seen_by_sweep s) m g.ended g.sweep may

  -- the head of a span that is not swept
  module _ (p : ℕ) (h : SpanHead) (head : page_of (v.page p) ≡ Head h) (waits : h.number ≢ v.generation) where
    pub kept : IsKept v.freeing p
    kept b y f same = waits ((g.heap.numbers p h head).freed b y f same)

    pub whole : IsSpan z.layout.pages v.page p h
    whole = g.heap.whole p h head kept

    pub unowned : h.owner ≡ 0
    unowned = elim (eqb_tells h.owner 0) [ inl y ↦ y.1 | inr n ↦ absurd (waits ((g.heap.numbers p h head).owned n.1)) ]

  -- the heap moves that a sweep's moves are
  pub starts_may : (p : ℕ) (h : SpanHead) → sweep.May s.end a (seen_by_sweep s) (sweep.Starts p h) → heap.MayRenumber v p h (h.number + 1)
  starts_may p h may =
      let is = g.sweep.generation in
      let n = may.1 in
      let waits : h.number ≢ v.generation = λ same. omega (arith, same, is, n) in
      record { head = may.0; owner = unowned p h may.0 waits; waits = waits; few = omega (arith, is, n) }

  -- what the head says of a span that is being swept
  swept_by : (p : ℕ) (h : SpanHead) (r c : ℕ) → sweep.Sweeps a p h r c (seen_by_sweep s) → (h.number + 1) + 1 ≡ gen
  swept_by p h r c w = let n : SaysFar gen (Head (in_sweep h)) (By a) = subst (λ (f : spans.Far). SaysFar gen (Head (in_sweep h)) f) w.by (subst (λ x. SaysFar gen x (s.far p)) w.head (g.sweep.numbers p)) in n.0

  -- as nobody owns it
  abbrev pub swept_head : SpanHead → SpanHead
  swept_head h = record h { owner = 0; number = h.number + 1 }

  pub ends_may : (p : ℕ) (h : SpanHead) → sweep.May s.end a (seen_by_sweep s) (sweep.Ends p h) → heap.MayRenumber v p (swept_head h) (h.number + 2)
  ends_may p h may =
      let is = g.sweep.generation in
      let n = swept_by p h (bit_words h) (bit_words h) may.0 in
      let waits : h.number + 1 ≢ v.generation = λ same. omega (arith, same, is, n) in
      record { head = may.0.head ∙ ap (λ (o : ℕ). Head (record h { owner = o; number = h.number + 1 })) (unowned p (in_sweep h) may.0.head waits); owner = refl; waits = waits; few = omega (arith, is, n) }

  starts : (p : ℕ) (h : SpanHead) → sweep.May s.end a (seen_by_sweep s) (sweep.Starts p h) → Good z (moved z a s (Sweep (sweep.Starts p h)))
  starts p h may = record {
    layout = g.layout;
    ended = g.ended;
    heap = (k.besides z s.heap (heap.Renumber p h (h.number + 1)) g.heap (starts_may p h may)).good;
    sweep = by (sweep.Starts p h) may;
    reached = g.reached;
    told = λ t is. absurd (cc is);
  }

  ends : (p : ℕ) (h : SpanHead) → sweep.May s.end a (seen_by_sweep s) (sweep.Ends p h) → Good z (moved z a s (Sweep (sweep.Ends p h)))
  ends p h may = record {
    layout = g.layout;
    ended = g.ended;
    heap = (k.besides z s.heap (heap.Renumber p (swept_head h) (h.number + 2)) g.heap (ends_may p h may)).good;
    sweep = by (sweep.Ends p h) may;
    reached = g.reached;
    told = λ t is. absurd (cc is);
  }

  -- a word of alloc bits is cut to its marks: what a script reaches there was marked
  module _ (p : ℕ) (h : SpanHead) (i : ℕ) (may : sweep.May s.end a (seen_by_sweep s) (sweep.Cuts p h i)) where
    abbrev j : ℕ
    j = 16 * p + i

    uncut_here : s.cut j ≡ false
    uncut_here = may.1.are_cut i may.2 ∙ le-ltb i i (omega arith)

    marks_here : s.heap.words (Cell.Mark j) ≡ marks_at s.end j
    marks_here = g.sweep.marks j ∙ rw (may.1.are_clear i may.2 ∙ le-ltb i i (omega arith)) refl

    stays : (n : Name) → Reach s.heap.ever n → s.heap.place n / 64 ≡ j → bit_at (s.heap.words (Cell.Mark j)) (s.heap.place n % 64) ≡ 1
    stays n r at =
        let marked = g.reached n r (ap s.cut at ∙ uncut_here) in
        rw (marks_here) (sym (k.rows.bit_of (marks_at s.end) j (s.heap.place n) at) ∙ marked)

    pub cuts_may : heap.MayThin z v j (s.heap.words (Cell.Mark j))
    cuts_may =
        let is = g.sweep.generation in
        let n = swept_by p h i i may.1 in
        let waits : h.number + 1 ≢ v.generation = λ same. omega (arith, same, is, n) in
        let few = may.2 in
        record { p = p; h = in_sweep h; span = whole p (in_sweep h) may.1.head waits; from = omega arith; below = omega arith; waits = waits; reached = stays }

    reached_then : ReachedAreMarked (marks_at s.end) (update s.cut j true) s.heap.place s.heap.ever
    reached_then n r uncut = g.reached n r (was_uncut (s.heap.place n / 64) uncut) where
      was_uncut : (x : ℕ) → update s.cut j true x ≡ false → s.cut x ≡ false
      was_uncut x e = elim (eqb_tells j x) [
        | inl y ↦ absurd (true_false (rw (y.0) at e))
        | inr n ↦ rw (n.0) at e
      ] where
        true_false : true ≡ false → ⊥
        true_false q = cc

    cuts : Good z (moved z a s (Sweep (sweep.Cuts p h i)))
    cuts = record { layout = g.layout; ended = g.ended; heap = (k.besides z s.heap (heap.Thin j (s.heap.words (Cell.Mark j))) g.heap cuts_may).good; sweep = by (sweep.Cuts p h i) may; reached = reached_then; told = λ t is. absurd (cc is) }

  -- the heap reads none of the words
  plain : (m : sweep.Move) → rights.Good z (rights.view (moved z a s (Sweep m)).heap) → spans.Good s.end (spans.view (seen_by_sweep (moved z a s (Sweep m)))) → (moved z a s (Sweep m)).cut ≡ s.cut → Good z (moved z a s (Sweep m))
  plain m heap sweep same = record { layout = g.layout; ended = g.ended; heap = heap; sweep = sweep; reached = subst (λ (c : ℕ → Bool). ReachedAreMarked (marks_at s.end) c s.heap.place s.heap.ever) (sym same) g.reached; told = λ t is. absurd (cc is) }

  pub sweeps : (m : sweep.Move) → IsOfSweep m → sweep.May s.end a (seen_by_sweep s) m → Good z (moved z a s (Sweep m))
  sweeps (sweep.Quiet (Ask.Load c)) of may = plain (sweep.Quiet (Ask.Load c)) g.heap g.sweep refl
  sweeps (sweep.Starts p h) of may = starts p h may
  sweeps (sweep.Cuts p h i) of may = cuts p h i may
  sweeps (sweep.Clears p h i) of may = plain (sweep.Clears p h i) g.heap (by (sweep.Clears p h i) may) refl
  sweeps sweep.TellsTally of may = plain sweep.TellsTally g.heap (by sweep.TellsTally may) refl
  sweeps sweep.TellsLive of may = plain sweep.TellsLive g.heap (by sweep.TellsLive may) refl
  sweeps sweep.TellsHeap of may = plain sweep.TellsHeap g.heap (by sweep.TellsHeap may) refl
  sweeps (sweep.Ends p h) of may = ends p h may
  sweeps _ of may = absurd of

-- what a seat placed is counted
counts : (k : Known) (z : Arena) (a : ℕ) (s : Shared) → Good z s → May z a s Count → Good z (moved z a s Count)
counts k z a s g may = record {
  layout = g.layout;
  ended = g.ended;
  heap = g.heap;
  sweep = k.sweep s.end a (seen_by_sweep s) sweep.Counts g.ended g.sweep (subst (λ (l : Layout). a < seats_of l) (sym g.layout) may);
  reached = g.reached;
  told = g.told;
}

pub keeps : Known → EachMoveKeeps
keeps k z a s (Deed m) g may = deed k z a s g m may
keeps k z a s (Sweep m) g may =
    subst (λ (b : Option Told). Good z (record s { told = b }) → MaySweep z a (record s { told = b }) m → Good z (moved z a (record s { told = b }) (Sweep m))) (sym may.quiet)
    (λ good allowed. sweeps k z a s good m allowed.of_sweep allowed.may) g may
keeps k z a s Count g may = counts k z a s g may
