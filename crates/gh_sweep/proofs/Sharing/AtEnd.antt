-- What holds at every moment holds where the cycle has ended, and nobody sweeps there.
use Rattle.std.proofs.Common.{◌≡◌, ◌≢◌, ℕ, zero, suc, ◌+◌, ◌-◌, ◌*◌, ◌/◌, ◌%◌, ◌^◌, ◌<◌, Bool, true, false, not, cond, refl, sym, ap, ◌∙◌, arith, inl, inr, bit_and, count_ones, ◌||◌}
use Rattle.std.proofs.lemmas.Bool.{lt-ltb}
use Rattle.gh_sweep.proofs.Vocabulary.{alloc_at, and_le_l, at_end, bit_at, bit_at-zero, bit_words_of, Body, By, Cell, cleared_at, CycleEnd, Due, EndsWell, eqb_tells, far_in, Free, freed_at, generation_of, Good, HasEnded, Head, HeapGood, in_all, in_no_span, InSpan, kept_at, left_uncut, LeftGood, live_at, LiveGood, marks_at, nothing_due, ones_le_self, owed, page_of, page_words, PageWord, reaches, Row, row_bit, RowsAreWritten, SaysFar, seats_of, some_below, sum_below, TallyGood, UnclearedMarksStand, view}
use Rattle.gh_sweep.proofs.Sharing.Pages.{unswept_done}
use Rattle.gh_sweep.proofs.Sharing.Sums.{left_all, sum_zero}

zero_bit : (i : ℕ) → bit_at 0 i ≡ 1 → ⊥
zero_bit i e = absurd (let none : bit_at 0 i ≡ 0 = bit_at-zero i in omega arith)

-- the number that passes the test
found_below : (test : ℕ → Bool) (n : ℕ) → some_below test n ≡ true → (p : ℕ) × (p < n) × (test p ≡ true)
found_below test zero e = absurd (cc)
found_below test (suc n) e = go (test n) refl e (found_below test n) where
  more : (p : ℕ) × (p < n) × (test p ≡ true) → (p : ℕ) × (p < suc n) × (test p ≡ true)
  more f = let l = f.1 in (f.0, omega arith, f.2)

  go : (b : Bool) → test n ≡ b → (b || some_below test n) ≡ true → (some_below test n ≡ true → (p : ℕ) × (p < n) × (test p ≡ true)) → (p : ℕ) × (p < suc n) × (test p ≡ true)
  go true is e rest = (n, omega arith, is)
  go false is e rest = more (rest e)

one_below : (test : ℕ → Bool) (n p : ℕ) → p < n → test p ≡ true → some_below test n ≡ true
one_below test zero p l e = absurd (omega arith)
one_below test (suc n) p l e = elim (eqb_tells p n) [
  | inl y ↦ ap (λ (b : Bool). b || some_below test n) (ap test (sym y.1) ∙ e)
  | inr x ↦ let ne = x.1 in either (test n) (one_below test n p (omega (arith, l, x.1)) e)
] where
  either : (b : Bool) → some_below test n ≡ true → (b || some_below test n) ≡ true
  either true e = refl
  either false e = e

module _ (page : Row) (i : ℕ) where
  abbrev test : ℕ → Bool
  test p = reaches i p (page_of (page p))

  span_found : in_no_span page i ≡ false → InSpan page i
  span_found e = span (found_below test (i / 16 + 1) (sets (some_below test (i / 16 + 1)) e)) where
    sets : (b : Bool) → not b ≡ false → b ≡ true
    sets true e = refl
    sets false e = absurd (cc)

    span : (p : ℕ) × (p < i / 16 + 1) × (test p ≡ true) → InSpan page i
    span h = grind arith

  in_span : InSpan page i → in_no_span page i ≡ false
  in_span s =
      let low = s.from in
      let reached : test s.p ≡ true = ap (λ (w : PageWord). reaches i s.p w) s.head ∙ lt-ltb i (16 * (s.p + s.h.pages)) s.below in
      ap not (one_below test (i / 16 + 1) s.p (omega arith) reached)

  no_span : in_no_span page i ≡ true → InSpan page i → ⊥
  no_span e s = grind (arith, in_span)

module _ (rows : RowsAreWritten) (e : CycleEnd) (ended : HasEnded e) where
  abbrev page_at : ℕ → PageWord
  page_at p = page_of (e.words (Cell.Page p))

  abbrev flag : ℕ → Bool
  flag i = in_no_span (page_words e.words) i

  says : (p : ℕ) → SaysFar (generation_of e) (page_at p) (far_in (page_at p))
  says p = grind arith

  none_there : (i : ℕ) → flag i ≡ true → (alloc_at e i ≡ 0) × (marks_at e i ≡ 0)
  none_there i is = ended.outside i (no_span (page_words e.words) i is)

  unswept : LeftGood (page_words e.words) (at_end e).far flag
  unswept i is =
      let s = span_found (page_words e.words) i is in
      record { span = s; unswept = λ done. unswept_done (ap far_in (sym s.head) ∙ done) }

  marks : UnclearedMarksStand (marks_at e) (marks_at e) flag
  marks i = go (flag i) refl where
    go : (b : Bool) → flag i ≡ b → marks_at e i ≡ cond b 0 (marks_at e i)
    go true is = (none_there i is).1
    go false is = refl

  inside : (i : ℕ) → alloc_at e i ≢ 0 → InSpan (page_words e.words) i
  inside i ne = go (flag i) refl where
    go : (b : Bool) → flag i ≡ b → InSpan (page_words e.words) i
    go true is = absurd (ne (none_there i is).0)
    go false is = span_found (page_words e.words) i is

  since : (x : ℕ) → flag (x / 64) ≡ true → row_bit (alloc_at e) x ≡ 1 → e.since x ≡ true
  since x is bit = absurd (zero_bit (x % 64) (ap (λ (w : ℕ). bit_at w (x % 64)) (sym (none_there (x / 64) is).0) ∙ (sym (rows.bit_of (alloc_at e) (x / 64) x refl) ∙ bit)))

  -- Nothing is told, owed or pending, and in words that need no sweep nothing was.

  owes_none : (part : Due → ℕ) → part nothing_due ≡ 0 → owed part (at_end e).due (seats_of e.layout) ≡ 0
  owes_none part none = sum_zero (λ a. part nothing_due) (seats_of e.layout) (λ a l. none)

  no_ones : (word with : ℕ) → word ≡ 0 → count_ones (bit_and word with) ≡ 0
  no_ones word with is = let l = and_le_l word with in let ones = ones_le_self (bit_and word with) in omega arith

  no_kept : (i : ℕ) → flag i ≡ true → kept_at e i ≡ 0
  no_kept i is = no_ones (alloc_at e i) (marks_at e i) (none_there i is).0

  no_freed : (i : ℕ) → flag i ≡ true → freed_at e i ≡ 0
  no_freed i is = no_ones (alloc_at e i) (2 ^ 64 - 1 - marks_at e i) (none_there i is).0

  no_bytes : (n i : ℕ) → n ≡ 0 → n * e.slot i ≡ 0
  no_bytes n i is = let product : n * e.slot i ≡ 0 * e.slot i = ap (λ (x : ℕ). x * e.slot i) is in omega (arith, product)

  all_left : (each : ℕ → ℕ) → ((i : ℕ) → flag i ≡ true → each i ≡ 0) → left_uncut each flag (bit_words_of e) ≡ in_all e each
  all_left each none = left_all each flag (bit_words_of e) none

  tallied : TallyGood e (e.words Cell.Tally) flag (at_end e).due
  tallied = record {
    marked = omega (arith, all_left (kept_at e) no_kept, owes_none (λ d. d.kept) refl, ended.tally);
    freed = omega (arith, all_left (freed_at e) no_freed, owes_none (λ d. d.freed) refl, ended.tally);
  }

  lives : LiveGood e (e.words Cell.Live) flag (at_end e).due
  lives = omega (arith, all_left (live_at e) (λ i is. no_bytes (kept_at e i) i (no_kept i is)), owes_none (λ d. d.live) refl, ended.live)

  counted : HeapGood e (e.words Cell.Heap) (alloc_at e) e.slot flag (at_end e).due (at_end e).pend
  counted =
      let pend : sum_below (λ a. 0) (seats_of e.layout) ≡ 0 = sum_zero (λ a. 0) (seats_of e.layout) (λ a l. refl) in
      let due = owes_none (λ d. d.cleared) refl in
      let all = all_left (cleared_at e) (λ i is. no_bytes (freed_at e i) i (no_freed i is)) in
      record { heap = omega (arith, pend, due, ended.heap); pending = omega (arith, pend); freed = omega (arith, due, all) }

  good_at_end : Good e (view (at_end e))
  good_at_end = record {
    generation = refl;
    heads = ended.heads;
    apart = ended.apart;
    numbers = says;
    untouched = λ i s un. (in_span (page_words e.words) i s, in_span (page_words e.words) i s);
    unswept = unswept;
    order = λ i is. is;
    marks = marks;
    uncut = λ i is. refl;
    uncut_slots = λ i is. refl;
    slots = ended.slots;
    few = ended.few;
    inside = inside;
    fits = ended.alloc_fits;
    stand = ended.stand;
    known = ended.known;
    only_since = since;
    told = λ a none. refl;
    tallied = tallied;
    lives = lives;
    counted = counted;
  }

nobody : (a : ℕ) (w : PageWord) → far_in w ≢ By a
nobody a Free by = cc
nobody a (Head h) by = cc
nobody a (Body b) by = cc

pub ends_well : RowsAreWritten → EndsWell
ends_well rows = grind (arith, good_at_end, nobody)
