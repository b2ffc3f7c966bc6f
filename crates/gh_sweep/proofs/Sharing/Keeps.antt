-- Each move keeps what holds at every moment.
use Rattle.std.proofs.Common.{◌≡◌, ◌≢◌, ℕ, ◌+◌, ◌*◌, ◌/◌, ◌%◌, ◌^◌, ◌<◌, Bool, true, false, cond, refl, sym, ap, subst, ◌∙◌, arith, inl, inr, bit_and, bit_or}
use Rattle.std.proofs.lemmas.Bool.{lt-ltb, le-ltb}
use Rattle.gh_sweep.proofs.Vocabulary.{alloc_at, bit_words, bit_words_of, By, Clears, Counts, Cuts, CycleEnd, Due, DueGood, EachMoveKeeps, Ends, eqb_tells, freed_in, Frees, generation_of, Good, HasEnded, HeapGood, in_sweep, InSpan, kept_in, Lays, LiveGood, marks_at, May, MayPlace, moved, OrderGood, Passes, Places, Quiet, Row, RowsAreWritten, Shared, SpanHead, Starts, Sweeps, TallyGood, TellsHeap, TellsLive, TellsTally, Turns, Unswept, UntouchedGood, update, View, view, with_word, with_word_cut}
use Rattle.gh_sweep.proofs.Bits.{kept_or_freed}
use Rattle.gh_sweep.proofs.Sharing.KeepsPages.{ends, frees, Known, passes, repaged, starts, turns}
use Rattle.gh_sweep.proofs.Sharing.Lays.{lays}
use Rattle.gh_sweep.proofs.Sharing.Pages.{one_span, swept_clear, unswept_by}
use Rattle.gh_sweep.proofs.Sharing.Quiet.{quiet_view}
use Rattle.gh_sweep.proofs.Sharing.Rows.{fits_cut, fits_set, known_set, one_more, since_cut, since_set, stand_cut, stand_set, uncut_written}
use Rattle.gh_sweep.proofs.Sharing.Sums.{at_entry, off_entry}
use Rattle.gh_sweep.proofs.Sharing.Told.{heap_counts, heap_cut, heap_places, heap_stays, heap_tells, live_cut, live_stays, live_tells, tally_cut, tally_stays, tally_tells}

-- a flag that is set
set_before : (f : ℕ → Bool) (j i : ℕ) → update f j true i ≡ false → f i ≡ false
set_before f j i e = grind arith

module _ (rows : RowsAreWritten) (e : CycleEnd) (ended : HasEnded e) (a : ℕ) (s : Shared) (g : Good e (view s)) where
  abbrev v : View
  v = view s

  -- A word of a span that the actor sweeps.
  module _ (p : ℕ) (h : SpanHead) (r c i : ℕ) (sweeps : Sweeps a p h r c s) (below : i < bit_words h) where
    word_within : 16 * p + i < bit_words_of e
    word_within = let w = (g.heads p (in_sweep h) sweeps.head).within in omega arith

    -- it is of no unswept span
    not_of : (j : ℕ) (t : InSpan v.page j) → s.far t.p ≡ Unswept → 16 * p + i ≢ j
    not_of j t un same =
        let of : t.p ≡ p = one_span v.page g.apart j p (in_sweep h) sweeps.head (omega arith) (omega arith) t in
        unswept_by a (sym un ∙ (ap s.far of ∙ sweeps.by))

  -- Word i of the span is cut.
  module _ (p : ℕ) (h : SpanHead) (i : ℕ) (seat : May e a s (Cuts p h i)) where
    abbrev j : ℕ
    j = 16 * p + i

    abbrev kept : ℕ
    kept = kept_in (v.alloc j) (v.mark j)

    abbrev freed : ℕ
    freed = freed_in (v.alloc j) (v.mark j)

    sweeping : Sweeps a p h i i s
    sweeping = seat.1

    within : i < bit_words h
    within = seat.2

    uncut_here : s.cut j ≡ false
    uncut_here = sweeping.are_cut i within ∙ le-ltb i i (omega arith)

    unclear_here : s.clear j ≡ false
    unclear_here = sweeping.are_clear i within ∙ le-ltb i i (omega arith)

    marks_here : v.mark j ≡ marks_at e j
    marks_here = g.marks j ∙ ap (λ (b : Bool). cond b 0 (marks_at e j)) unclear_here

    alloc_here : v.alloc j ≡ alloc_at e j
    alloc_here = g.uncut j uncut_here

    kept_here : kept ≡ kept_in (alloc_at e j) (marks_at e j)
    kept_here = ap (λ (n : ℕ). kept_in n (v.mark j)) alloc_here ∙ ap (λ (n : ℕ). kept_in (alloc_at e j) n) marks_here

    freed_here : freed ≡ freed_in (alloc_at e j) (marks_at e j)
    freed_here = ap (λ (n : ℕ). freed_in n (v.mark j)) alloc_here ∙ ap (λ (n : ℕ). freed_in (alloc_at e j) n) marks_here

    marks_fit : v.mark j < 2 ^ 64
    marks_fit = subst (λ (n : ℕ). n < 2 ^ 64) (sym marks_here) (ended.marks_fit j)

    cut_before : (k : ℕ) → update s.cut j true k ≡ false → s.cut k ≡ false
    cut_before k is = grind (arith, set_before)

    untouched_then : UntouchedGood v.page s.far (update s.cut j true) s.clear
    untouched_then k t un = let was = g.untouched k t un in (off_entry s.cut j k true (not_of p h i i i sweeping within k t un) ∙ was.0, was.1)

    order_then : OrderGood (update s.cut j true) s.clear
    order_then k is = elim (eqb_tells j k) [ inl y ↦ rw (y.0) refl | inr n ↦ rw (n.0) (g.order k is) ]

    cut_good : Good e (view (moved a s (Cuts p h i)))
    cut_good = record {
      generation = g.generation;
      heads = g.heads;
      apart = g.apart;
      numbers = g.numbers;
      untouched = untouched_then;
      unswept = g.unswept;
      order = order_then;
      marks = g.marks;
      uncut = uncut_written (alloc_at e) v.alloc s.cut (update s.cut j true) j (bit_and (v.alloc j) (v.mark j)) (at_entry s.cut j true) cut_before g.uncut;
      uncut_slots = λ k is. g.uncut_slots k (cut_before k is);
      slots = g.slots;
      few = g.few;
      inside = λ k ne. g.inside k (still k ne);
      fits = fits_cut rows v.alloc (marks_at e) j (v.mark j) marks_here g.fits;
      stand = stand_cut rows v.alloc (marks_at e) j (v.mark j) marks_here g.stand;
      known = g.known;
      only_since = since_cut rows v.alloc (marks_at e) j (v.mark j) marks_here s.cut s.since g.known g.only_since;
      told = λ b none. off_entry s.due a b due_then (λ same. none p (sweeping.by ∙ ap By same)) ∙ g.told b none;
      tallied = tally_cut e s.cut s.due a j kept freed (s.slot j) seat.0 (word_within p h i i i sweeping within) uncut_here kept_here freed_here (g.uncut_slots j uncut_here) v.tally g.tallied;
      lives = live_cut e s.cut s.due a j kept freed (s.slot j) seat.0 (word_within p h i i i sweeping within) uncut_here kept_here freed_here (g.uncut_slots j uncut_here) v.live g.lives;
      counted = heap_cut e s.cut s.due a j kept freed (s.slot j) seat.0 (word_within p h i i i sweeping within) uncut_here kept_here freed_here (g.uncut_slots j uncut_here) v.heap (bit_and (v.alloc j) (v.mark j)) v.alloc s.slot s.pend refl refl (kept_or_freed (v.alloc j) (v.mark j) (g.fits j) marks_fit) g.counted;
    } where
      due_then : Due
      due_then = with_word_cut (s.due a) kept freed (s.slot j)

      none_left : (n : ℕ) → n ≡ 0 → bit_and n (v.mark j) ≡ 0
      none_left n is = subst (λ (x : ℕ). bit_and x (v.mark j) ≡ 0) (sym is) refl

      still : (k : ℕ) → with_word v.alloc j (bit_and (v.alloc j) (v.mark j)) k ≢ 0 → v.alloc k ≢ 0
      still k ne is = elim (eqb_tells j k) [
        | inl y ↦ ne (rw (y.0) (none_left (v.alloc j) (ap v.alloc y.1 ∙ is)))
        | inr n ↦ ne (rw (n.0) is)
      ]

  -- And its marks are cleared.
  module _ (p : ℕ) (h : SpanHead) (i : ℕ) (may : May e a s (Clears p h i)) where
    abbrev m : ℕ
    m = 16 * p + i

    cut_here : s.cut m ≡ true
    cut_here = may.0.are_cut i may.1 ∙ lt-ltb i (i + 1) (omega arith)

    clear_good : Good e (view (moved a s (Clears p h i)))
    clear_good = record {
      generation = g.generation;
      heads = g.heads;
      apart = g.apart;
      numbers = g.numbers;
      untouched = λ k t un. let was = g.untouched k t un in (was.0, off_entry s.clear m k true (not_of p h (i + 1) i i may.0 may.1 k t un) ∙ was.1);
      unswept = λ k is. g.unswept k (set_before s.clear m k is);
      order = λ k is. elim (eqb_tells m k) [ inl y ↦ ap s.cut (sym y.1) ∙ cut_here | inr n ↦ g.order k (rw (n.0) at is) ];
      marks = λ k. elim (eqb_tells m k) [ inl y ↦ rw (y.0) refl | inr n ↦ rw (n.0) (g.marks k) ];
      uncut = g.uncut;
      uncut_slots = g.uncut_slots;
      slots = g.slots;
      few = g.few;
      inside = g.inside;
      fits = g.fits;
      stand = g.stand;
      known = g.known;
      only_since = g.only_since;
      told = g.told;
      tallied = g.tallied;
      lives = g.lives;
      counted = g.counted;
    }

  -- An object is placed.
  module _ (x : ℕ) (may : May e a s (Places x)) where
    abbrev w : ℕ
    w = x / 64

    place : MayPlace e v.page v.alloc x
    place = may.1

    is_clear : s.clear w ≡ true
    is_clear = swept_clear (generation_of e) v.page s.far s.clear g.apart g.numbers g.unswept w place.span place.swept

    is_cut : s.cut w ≡ true
    is_cut = g.order w is_clear

    place_good : Good e (view (moved a s (Places x)))
    place_good = record {
      generation = g.generation;
      heads = g.heads;
      apart = g.apart;
      numbers = g.numbers;
      untouched = g.untouched;
      unswept = g.unswept;
      order = g.order;
      marks = g.marks;
      uncut = uncut_written (alloc_at e) v.alloc s.cut s.cut w (bit_or (v.alloc w) (2 ^ (x % 64))) is_cut (λ k is. is) g.uncut;
      uncut_slots = g.uncut_slots;
      slots = g.slots;
      few = g.few;
      inside = λ k ne. elim (eqb_tells w k) [ inl y ↦ subst (λ (n : ℕ). InSpan v.page n) y.1 place.span | inr n ↦ g.inside k (λ is. ne (rw (n.0) is)) ];
      fits = fits_set rows v.alloc x g.fits;
      stand = stand_set rows v.alloc x (marks_at e) g.stand;
      known = known_set rows v.alloc x (marks_at e) s.since g.known;
      only_since = since_set rows v.alloc x s.cut s.since g.only_since;
      told = g.told;
      tallied = g.tallied;
      lives = g.lives;
      counted = heap_places e ended s.cut s.due a may.0 v.alloc s.slot s.pend g.fits g.few v.heap g.counted w (bit_or (v.alloc w) (2 ^ (x % 64))) inside is_cut (one_more rows v.alloc x g.fits place.clear);
    } where
      inside : w < bit_words_of e
      inside = let h = (g.heads place.span.p place.span.h place.span.head).within in let b = place.span.below in omega arith

  -- Counts are told: they change, and what actors have to tell.
  record Recounted (tally live heap : ℕ) (due : ℕ → Due) (pend : Row) : Type 0 where
    pub told : DueGood s.far due
    pub tallied : TallyGood e tally s.cut due
    pub lives : LiveGood e live s.cut due
    pub counted : HeapGood e heap v.alloc s.slot s.cut due pend

  recounted : {tally live heap : ℕ} {due : ℕ → Due} {pend : Row} → Recounted tally live heap due pend → Good e (record v { tally = tally; live = live; heap = heap; due = due; pend = pend })
  recounted r = record {
    generation = g.generation;
    heads = g.heads;
    apart = g.apart;
    numbers = g.numbers;
    untouched = g.untouched;
    unswept = g.unswept;
    order = g.order;
    marks = g.marks;
    uncut = g.uncut;
    uncut_slots = g.uncut_slots;
    slots = g.slots;
    few = g.few;
    inside = g.inside;
    fits = g.fits;
    stand = g.stand;
    known = g.known;
    only_since = g.only_since;
    told = r.told;
    tallied = r.tallied;
    lives = r.lives;
    counted = r.counted;
  }

  module _ (seat : May e a s TellsTally) where
    -- who has nothing to tell tells nothing
    told_by : (d : Due) → ((s.due a ≡ record { kept = 0; freed = 0; live = 0; cleared = 0 }) → d ≡ record { kept = 0; freed = 0; live = 0; cleared = 0 }) → (b : ℕ) → ((p : ℕ) → s.far p ≢ By b) → update s.due a d b ≡ record { kept = 0; freed = 0; live = 0; cleared = 0 }
    told_by d same b none = elim (eqb_tells a b) [
      | inl y ↦ rw (y.0) (same (ap s.due y.1 ∙ g.told b none))
      | inr n ↦ rw (n.0) (g.told b none)
    ]

    tally_good : Good e (view (moved a s TellsTally))
    tally_good = recounted (record {
      told = told_by (record (s.due a) { kept = 0; freed = 0 }) (λ is. ap (λ (d : Due). record d { kept = 0; freed = 0 }) is);
      tallied = tally_tells e ended s.cut s.due a seat v.tally g.tallied;
      lives = live_stays e ended s.cut s.due a seat v.live (record (s.due a) { kept = 0; freed = 0 }) refl g.lives;
      counted = heap_stays e ended s.cut s.due a seat v.alloc s.slot s.pend g.fits g.few v.heap g.counted (record (s.due a) { kept = 0; freed = 0 }) refl;
    })

    live_good : Good e (view (moved a s TellsLive))
    live_good = recounted (record {
      told = told_by (record (s.due a) { live = 0 }) (λ is. ap (λ (d : Due). record d { live = 0 }) is);
      tallied = tally_stays e ended s.cut s.due a seat v.tally (record (s.due a) { live = 0 }) refl refl g.tallied;
      lives = live_tells e ended s.cut s.due a seat v.live g.lives;
      counted = heap_stays e ended s.cut s.due a seat v.alloc s.slot s.pend g.fits g.few v.heap g.counted (record (s.due a) { live = 0 }) refl;
    })

    heap_good : Good e (view (moved a s TellsHeap))
    heap_good = recounted (record {
      told = told_by (record (s.due a) { cleared = 0 }) (λ is. ap (λ (d : Due). record d { cleared = 0 }) is);
      tallied = tally_stays e ended s.cut s.due a seat v.tally (record (s.due a) { cleared = 0 }) refl refl g.tallied;
      lives = live_stays e ended s.cut s.due a seat v.live (record (s.due a) { cleared = 0 }) refl g.lives;
      counted = heap_tells e ended s.cut s.due a seat v.alloc s.slot s.pend g.fits g.few v.heap g.counted;
    })

    count_good : Good e (view (moved a s Counts))
    count_good = recounted (record { told = g.told; tallied = g.tallied; lives = g.lives; counted = heap_counts e ended s.cut s.due a seat v.alloc s.slot s.pend g.fits g.few v.heap g.counted })

pub keeps : Known → RowsAreWritten → EachMoveKeeps
keeps k rows e a s (Quiet step) ended g may = subst (λ (v : View). Good e v) (sym (quiet_view s step may)) g
keeps k rows e a s (Starts p h) ended g may = repaged e (view s) _ _ g (starts k e ended (view s) g a p h may.0 may.1)
keeps k rows e a s (Cuts p h i) ended g may = cut_good rows e ended a s g p h i may
keeps k rows e a s (Clears p h i) ended g may = clear_good rows e ended a s g p h i may
keeps k rows e a s TellsTally ended g may = tally_good rows e ended a s g may
keeps k rows e a s TellsLive ended g may = live_good rows e ended a s g may
keeps k rows e a s TellsHeap ended g may = heap_good rows e ended a s g may
keeps k rows e a s (Ends p h) ended g may = repaged e (view s) _ _ g (ends k e ended (view s) g a p h may.0.by may.0.head may.0.are_clear may.1)
keeps k rows e a s (Passes p h owner) ended g may = repaged e (view s) _ _ g (passes k e ended (view s) g p h owner may.0 may.1)
keeps k rows e a s (Lays p h) ended g may = lays k e (view s) g p h may
keeps k rows e a s (Frees p h) ended g may = repaged e (view s) _ _ g (frees k e ended (view s) g p h may.0 may.1)
keeps k rows e a s (Turns p word) ended g may = repaged e (view s) _ _ g (turns k e ended (view s) g p word may.0 may.1)
keeps k rows e a s (Places x) ended g may = place_good rows e ended a s g x may
keeps k rows e a s Counts ended g may = count_good rows e ended a s g may
