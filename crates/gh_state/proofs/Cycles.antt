-- A cycle opens and ends; and what is told once all is swept.
use Rattle.std.proofs.Common.{◌≡◌, ℕ, zero, suc, ◌+◌, ◌-◌, ◌/◌, ◌%◌, true, refl, sym, ap, subst, ◌∙◌, arith, inl, inr, Option, None}
use Rattle.std.proofs.lemmas.Bool.{eq-eqb}
use Rattle.gh_state.proofs.Vocabulary.{AllIsTold, Arena, AreSwept, bit_at, bit_at-zero, Body, Cell, cycle_ended, CycleEnd, CyclesEnd, CyclesOpen, Done, Due, end_of, EndsWell, eqb_tells, Far, Free, generation_of, Good, HasEnded, Head, HeapsOpen, InSpan, IsOver, left_uncut, mark_words, Name, nothing_due, opening, opening_end, opening_words, Opens, owed, owner_in, page_of, PageWord, Reach, row_bit, RowsAreWritten, SaysFar, seats_of, seen_by_sweep, Shared, SpanHead, TheSweepIsTold, Told, Words}
use Rattle.gh_heap.specs.Rights as rights
use Rattle.gh_sweep.specs.Bits.{sum_below}
use Rattle.gh_sweep.specs.Shared as spans
use Rattle.gh_state.proofs.Beside.{no_word, zero_one}
use Rattle.gh_state.proofs.Swept.{done_by}

pub record Known : Type 0 where
  pub rows : RowsAreWritten
  pub ends : EndsWell

-- Sums.

sum_nothing : (f : ℕ → ℕ) → sum_below f 0 ≡ 0
unfolding sum_below
sum_nothing f = refl

sum_more : (f : ℕ → ℕ) (n : ℕ) → sum_below f (suc n) ≡ sum_below f n + f n
unfolding sum_below
sum_more f n = refl

sum_none : (f : ℕ → ℕ) (n : ℕ) → ((q : ℕ) → f q ≡ 0) → sum_below f n ≡ 0
sum_none f zero none = sum_nothing f
sum_none f (suc n) none = let e : sum_below f n ≡ 0 = sum_none f n none in omega (arith, e, none n, sum_more f n)

pub sum_same : (f g : ℕ → ℕ) (n : ℕ) → ((q : ℕ) → f q ≡ g q) → sum_below f n ≡ sum_below g n
sum_same f g zero same = sum_nothing f ∙ sym (sum_nothing g)
sum_same f g (suc n) same =
    let e : sum_below f n ≡ sum_below g n = sum_same f g n same in
    omega (arith, e, same n, sum_more f n, sum_more g n)

-- Where each span is swept.
module _ (e : CycleEnd) (v : spans.View) (g : spans.Good e v) (done : (p : ℕ) → v.far p ≡ Done) where
  all_cut : (i : ℕ) → v.cut i ≡ true
  all_cut i = grind arith

  no_marks : (i : ℕ) → v.mark i ≡ 0
  no_marks i = grind arith

  none_due : (a : ℕ) → v.due a ≡ nothing_due
  none_due a = grind arith

  none_owed : (part : Due → ℕ) → part nothing_due ≡ 0 → owed part v.due (seats_of e.layout) ≡ 0
  none_owed part none = grind (arith, none_due, sum_none)

  none_left : (each : ℕ → ℕ) (n : ℕ) → left_uncut each v.cut n ≡ 0
  none_left each n = grind (arith, all_cut, sum_none)

all_done : (z : Arena) (s : Shared) → Good z s → AreSwept s → (p : ℕ) → s.far p ≡ Done
all_done z s g swept p = go (page_of (s.heap.words (Cell.Page p))) refl where
  go : (w : PageWord) → page_of (s.heap.words (Cell.Page p)) ≡ w → s.far p ≡ Done
  go Free is = subst (λ (w : PageWord). SaysFar (generation_of s.end) w (s.far p)) is (g.sweep.numbers p)
  go (Head h) is = done_by (generation_of s.end) h (s.far p) (subst (λ (w : PageWord). SaysFar (generation_of s.end) w (s.far p)) is (g.sweep.numbers p)) (swept p h is ∙ g.sweep.generation)
  go (Body b) is = subst (λ (w : PageWord). SaysFar (generation_of s.end) w (s.far p)) is (g.sweep.numbers p)

-- The opening.

opens_at : (z : Arena) (was : Shared) → Good z (record was { told = None }) → AreSwept was → Opens z (record was { told = None })
opens_at z was g swept = record {
  good = record {
    layout = g.layout;
    ended = g.ended;
    heap = g.heap;
    sweep = record {
      generation = g.sweep.generation;
      heads = g.sweep.heads;
      apart = g.sweep.apart;
      numbers = g.sweep.numbers;
      untouched = g.sweep.untouched;
      unswept = g.sweep.unswept;
      order = g.sweep.order;
      marks = λ i. sym (no_marks was.end (spans.view (seen_by_sweep (record was { told = None }))) g.sweep done i) ∙ g.sweep.marks i;
      uncut = g.sweep.uncut;
      uncut_slots = g.sweep.uncut_slots;
      slots = g.sweep.slots;
      few = g.sweep.few;
      inside = g.sweep.inside;
      fits = g.sweep.fits;
      stand = g.sweep.stand;
      known = g.sweep.known;
      only_since = g.sweep.only_since;
      told = g.sweep.told;
      tallied = g.sweep.tallied;
      lives = g.sweep.lives;
      counted = g.sweep.counted;
    };
    reached = g.reached;
    told = λ t is. done;
  };
  marks = no_marks was.end (spans.view (seen_by_sweep (record was { told = None }))) g.sweep done;
} where
  done : (p : ℕ) → was.far p ≡ Done
  done = all_done z (record was { told = None }) g swept

pub opens : CyclesOpen
opens z s g none swept = subst (λ (b : Option Told). Good z (record s { told = b }) → Opens z (record s { told = b })) (sym none) (λ good. opens_at z s good swept) g

-- Once all is swept.

told_at : (z : Arena) (was : Shared) → Good z (record was { told = None }) → AreSwept was → AllIsTold (record was { told = None })
told_at z was g swept = record {
  objects = λ x set. g.sweep.only_since x (all_cut was.end (spans.view (seen_by_sweep (record was { told = None }))) g.sweep done (x / 64)) set;
  marks = no_marks was.end (spans.view (seen_by_sweep (record was { told = None }))) g.sweep done;
  marked = omega (arith, g.sweep.tallied.marked, none_owed was.end (spans.view (seen_by_sweep (record was { told = None }))) g.sweep done (λ d. d.kept) refl, none_left was.end (spans.view (seen_by_sweep (record was { told = None }))) g.sweep done (spans.kept_at was.end) (spans.bit_words_of was.end));
  freed = omega (arith, g.sweep.tallied.freed, none_owed was.end (spans.view (seen_by_sweep (record was { told = None }))) g.sweep done (λ d. d.freed) refl, none_left was.end (spans.view (seen_by_sweep (record was { told = None }))) g.sweep done (spans.freed_at was.end) (spans.bit_words_of was.end));
  live = omega (arith, g.sweep.lives, none_owed was.end (spans.view (seen_by_sweep (record was { told = None }))) g.sweep done (λ d. d.live) refl, none_left was.end (spans.view (seen_by_sweep (record was { told = None }))) g.sweep done (spans.live_at was.end) (spans.bit_words_of was.end));
  heap = omega (arith, g.sweep.counted.heap, none_owed was.end (spans.view (seen_by_sweep (record was { told = None }))) g.sweep done (λ d. d.cleared) refl);
} where
  done : (p : ℕ) → was.far p ≡ Done
  done = all_done z (record was { told = None }) g swept

pub tells : TheSweepIsTold
tells z s g none swept = subst (λ (b : Option Told). Good z (record s { told = b }) → AllIsTold (record s { told = b })) (sym none) (λ good. told_at z s good swept) g

-- The end.

module _ (k : Known) (z : Arena) (s : Shared) (g : Good z s) (o : IsOver s) where
  abbrev v : rights.View
  v = rights.view s.heap

  done : (p : ℕ) → s.far p ≡ Done
  done p = g.told o.counts o.under_way p

  unowned : (p : ℕ) (h : SpanHead) → page_of (v.page p) ≡ Head h → h.owner ≡ 0
  unowned p h e = elim (eqb_tells h.owner 0) [
    | inl y ↦ y.1
    | inr n ↦ absurd (nobody ((g.heap.owners (h.owner - 1) p).0 (ap owner_in e ∙ let owned = n.1 in omega (arith, owned))))
  ] where
    nobody : s.heap.holds (h.owner - 1) p ≡ true → ⊥
    nobody held = let none = o.none_held (h.owner - 1) p in absurd (cc (none, held))

  -- each span has the number of the generation that ends
  number : (p : ℕ) (h : SpanHead) → page_of (v.page p) ≡ Head h → h.number ≡ s.heap.words Cell.Gen
  number p h e = subst (λ (f : Far). SaysFar (generation_of s.end) (Head h) f) (done p) (subst (λ (w : PageWord). SaysFar (generation_of s.end) w (s.far p)) e (g.sweep.numbers p)) ∙ sym g.sweep.generation

  no_bits_outside : (i : ℕ) → (InSpan v.page i → ⊥) → v.alloc i ≡ 0
  no_bits_outside i out = elim (eqb_tells (v.alloc i) 0) [ inl y ↦ y.1 | inr n ↦ absurd (out (g.sweep.inside i n.1)) ]

  no_marks_outside : (i : ℕ) → (InSpan v.page i → ⊥) → s.heap.words (Cell.Mark i) ≡ 0
  no_marks_outside i out = no_word k.rows (mark_words s.heap.words) i (o.marks_fit i) (λ x at set.
      let stands : row_bit v.alloc x ≡ 1 = o.stand x set in
      let none : row_bit v.alloc x ≡ 0 = k.rows.bit_of v.alloc i x at ∙ ap (λ (n : ℕ). bit_at n (x % 64)) (no_bits_outside i out) ∙ bit_at-zero (x % 64) in
      zero_one (row_bit v.alloc x) none stands)

  has_ended : HasEnded (end_of s)
  has_ended = record {
    generation = o.room;
    heads = g.sweep.heads;
    apart = g.sweep.apart;
    numbers = λ p h e. (ap (λ (n : ℕ). n + 2) (number p h e), unowned p h e);
    outside = λ i out. (no_bits_outside i out, no_marks_outside i out);
    slots = g.sweep.slots;
    few = g.sweep.few;
    alloc_fits = g.sweep.fits;
    marks_fit = o.marks_fit;
    stand = o.stand;
    known = λ x set. eq-eqb (row_bit (mark_words s.heap.words) x) 1 set;
    tally = o.tally;
    live = o.live;
    heap = omega (arith, g.sweep.counted.heap, none_owed s.end (spans.view (seen_by_sweep s)) g.sweep done (λ d. d.cleared) refl, sum_none s.pend (seats_of s.end.layout) o.owes_none);
  }

  pub ends_here : Good z (cycle_ended s)
  ends_here = record {
    layout = g.layout;
    ended = has_ended;
    heap = record {
      lock = g.heap.lock;
      spans = g.heap.spans;
      whole = g.heap.whole;
      generation = o.room;
      numbers = λ p h e. record {
        few = let n = number p h e in omega arith;
        owned = λ owned. absurd (owned (unowned p h e));
        freed = λ a y f same. let none = o.none_freed a in absurd (cc (none, f));
      };
      owners = g.heap.owners;
      laying = g.heap.laying;
      freeing = g.heap.freeing;
      words = g.heap.words;
      bits = g.heap.bits;
      reached = g.heap.reached;
      slots = g.heap.slots;
      pointers = g.heap.pointers;
      fields = g.heap.fields;
      globals = g.heap.globals;
      names = g.heap.names;
    };
    sweep = k.ends.good (end_of s) has_ended;
    reached = λ n r uncut. o.reached n r;
    told = λ t is. absurd (cc is);
  }

pub ends : Known → CyclesEnd
ends k z s g o = ends_here k z s g o

-- The opening of a heap.

module _ (k : Known) (z : Arena) (trigger : ℕ) where
  abbrev words : Words
  words = opening_words z.layout trigger

  no_head : (h : SpanHead) → page_of 0 ≡ Head h → ⊥
  no_head h e = cc

  no_mark : (x : ℕ) → row_bit (mark_words words) x ≡ 1 → ⊥
  no_mark x set = zero_one (bit_at 0 (x % 64)) (bit_at-zero (x % 64)) (sym (k.rows.bit_of (mark_words words) (x / 64) x refl) ∙ set)

  end_is : HasEnded (opening_end z.layout trigger)
  end_is = grind (arith, no_head, no_mark, sum_none)

  opens_so : (h : rights.Shared) → rights.Good z (rights.view (record h { words = words })) → ((n : Name) → Reach h.ever n → ⊥) → Good z (opening z h trigger)
  opens_so h good none = record { layout = refl; ended = end_is; heap = good; sweep = k.ends.good (opening_end z.layout trigger) end_is; reached = λ n r uncut. absurd (none n r); told = λ t is. absurd (cc is) }

pub heaps_open : Known → HeapsOpen
heaps_open k z h trigger good none = opens_so k z trigger h good none
