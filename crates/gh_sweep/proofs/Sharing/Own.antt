-- The steps of a sweep among others are moves that it may make, and what holds of it lasts.
use Rattle.std.proofs.Common.{◌≡◌, ◌≢◌, ℕ, ◌+◌, ◌*◌, ◌%◌, ◌^◌, ◌<◌, Bool, true, false, cond, eqb, ltb, refl, sym, ap, subst, ◌∙◌, arith, inl, inr, bit_and, ◌↔◌, eqb-true, lt-ltb, le-ltb, ltb-false, ltb-true}
use Rattle.gh_sweep.proofs.Vocabulary.{add-mul, AddHeap, AddLive, AddTally, all_owed, asks, at_stage, Begin, bit_words, By, Cell, cell_of, ClearBits, ClearMarks, Clears, counted, CycleEnd, Done, Due, effect, Ended, eqb_tells, Facts, Finish, freed_in, goes, Good, HasEnded, Head, head_word, in_sweep, InSpan, is_busy, IsInArena, kept_in, Lands, Load, LoadMarks, Lost, move_at, move_of, moved, nat_tests, negative, page_of, put, Quiet, seats_of, Shared, slot_bytes, SpanHead, Starts, SweepFacts, Sweeping, SweepKeepsItsFacts, Sweeps, SweepStage, tally_word, TellsHeap, TellsLive, TellsTally, Unswept, update, view, with_word_cut, word_at, Words}
use Rattle.gh_sweep.proofs.Sharing.KeepsPages.{fits_then, fresh_before, Known, reads}
use Rattle.gh_sweep.proofs.Sharing.Pages.{by_done}
use Rattle.gh_sweep.proofs.Sharing.Sums.{at_entry}
use Rattle.gh_sweep.proofs.Sweeping.Steps.{word_is}

abbrev due_of : (kept freed live cleared : ℕ) → Due
due_of kept freed live cleared = record { kept = kept; freed = freed; live = live; cleared = cleared }

same_due : (k f l c m g n d : ℕ) → k ≡ m → f ≡ g → l ≡ n → c ≡ d → due_of k f l c ≡ due_of m g n d
same_due k f l c m g n d a b x y = ap (λ (i : ℕ). due_of i f l c) a ∙ (ap (λ (i : ℕ). due_of m i l c) b ∙ (ap (λ (i : ℕ). due_of m g i c) x ∙ ap (λ (i : ℕ). due_of m g n i) y))

module _ (k : Known) (laws : SweepKeepsItsFacts) (e : CycleEnd) (ended : HasEnded e) (a : ℕ) (s : Shared) (g : Good e (view s)) (seat : a < seats_of e.layout) (m : Sweeping) where
  abbrev p : ℕ
  p = m.page

  abbrev h : SpanHead
  h = m.head

  abbrev SweepFactsAt : SweepStage → Type 0
  SweepFactsAt stage = SweepFacts e a s (at_stage m stage)

  abbrev LandsAt : SweepStage → Type 0
  LandsAt stage = Lands e a s (move_at (at_stage m stage) stage (s.words (cell_of (asks e.layout (at_stage m stage))))) (effect s.words (asks e.layout (at_stage m stage))) (λ t. SweepFacts e a t (goes (at_stage m stage) (s.words (cell_of (asks e.layout (at_stage m stage))))))

  -- what the next stage relies on of the words
  facts_then : (stage : SweepStage) → is_busy stage ≡ true → SweepFactsAt stage → Facts (goes (at_stage m stage) (s.words (cell_of (asks e.layout (at_stage m stage))))) (effect s.words (asks e.layout (at_stage m stage)))
  facts_then stage busy f = (laws.own e.layout (at_stage m stage) s.words f.placed busy f.facts).leads

  -- The sweep begins, or is lost.

  abbrev begun_words : Words
  begun_words = put s.words (Cell.Page p) (head_word (in_sweep h))

  begin_at : SweepFactsAt Begin → (b : Bool) → eqb (s.words (Cell.Page p)) (head_word h) ≡ b → Lands e a s (cond b (Starts p h) (Quiet (Load (Cell.Page p)))) (cond b begun_words s.words) (λ t. SweepFacts e a t (at_stage m (cond b (LoadMarks 0) (Ended Lost))))
  begin_at f true is = record {
    may = (head_was, f.number);
    words_are = refl;
    after = record {
      placed = record { arena = f.placed.arena; head = f.placed.head; stage = (let some = f.placed.arena.some in omega arith) };
      number = f.number;
      right = right_then;
      due = f.due ∙ same_due 0 0 0 0 m.kept m.freed (m.kept * slot_bytes h) (m.freed * slot_bytes h) (sym f.is_at.0) (sym f.is_at.1) (none_of m.kept f.is_at.0) (none_of m.freed f.is_at.1);
      facts = subst (λ (b : Bool). Facts (at_stage m (cond b (LoadMarks 0) (Ended Lost))) (cond b begun_words s.words)) is (facts_then Begin refl f);
      is_at = record {
        by = at_entry s.far p (By a);
        head = ap page_of (at_entry (view s).page p (head_word (in_sweep h))) ∙ reads k (in_sweep h) (fits_then k e ended (view s) g a p h head_was f.number);
        are_cut = λ i l. (g.untouched (16 * p + i) (span i l) fresh).0 ∙ sym (le-ltb i 0 (omega arith));
        are_clear = λ i l. (g.untouched (16 * p + i) (span i l) fresh).1 ∙ sym (le-ltb i 0 (omega arith));
      };
    };
  } where
    head_was : page_of (s.words (Cell.Page p)) ≡ Head h
    head_was = ap page_of (eqb-true _ _ is) ∙ reads k h f.placed.head.head

    fresh : s.far p ≡ Unswept
    fresh = fresh_before k e ended (view s) g a p h head_was f.number

    span : (i : ℕ) → i < bit_words h → InSpan (view s).page (16 * p + i)
    span i l = record { p = p; h = h; head = head_was; from = omega arith; below = omega arith }

    none_of : (n : ℕ) → n ≡ 0 → 0 ≡ n * slot_bytes h
    none_of n is = let product : n * slot_bytes h ≡ 0 * slot_bytes h = ap (λ (x : ℕ). x * slot_bytes h) is in omega (arith, product)

    right_then : (q : ℕ) → (update s.far p (By a) q ≡ By a) ↔ ((true ≡ true) × (p ≡ q))
    right_then q = elim (eqb_tells p q) [
      | inl y ↦ (λ x. (refl, y.1), λ x. rw (y.0) refl)
      | inr n ↦ (λ x. absurd (no_span ((f.right q).0 (rw (n.0) at x)).0), λ x. absurd (n.1 x.1))
    ] where
      no_span : false ≡ true → ⊥
      no_span x = cc
  begin_at f false is = record {
    may = tt;
    words_are = refl;
    after = record { placed = record { arena = f.placed.arena; head = f.placed.head; stage = tt }; number = f.number; right = f.right; due = f.due; facts = tt; is_at = tt };
  }

  -- A word's three steps.

  abbrev here : ℕ → ℕ
  here i = 16 * p + i

  at_word : (i : ℕ) → IsInArena e.layout p h → i < bit_words h → word_at e.layout m i ≡ here i
  at_word i arena l = word_is e.layout p h i arena l

  next_below : (i x : ℕ) → here i ≢ here x → ltb x i ≡ ltb x (i + 1)
  next_below i x ne = elim (eqb_tells x i) [
    | inl y ↦ absurd (ne (ap here (sym y.1)))
    | inr n ↦ let apart = n.1 in grind (arith, nat_tests)
  ]

  load_lands : (i : ℕ) → SweepFactsAt (LoadMarks i) → LandsAt (LoadMarks i)
  load_lands i f = record {
    may = tt;
    words_are = refl;
    after = record { placed = record { arena = f.placed.arena; head = f.placed.head; stage = f.placed.stage }; number = f.number; right = f.right; due = f.due; facts = facts_then (LoadMarks i) refl f; is_at = f.is_at };
  }

  -- the alloc bits are cut
  module _ (i marks : ℕ) (f : SweepFactsAt (ClearBits i marks)) where
    abbrev j : ℕ
    j = here i

    within : i < bit_words h
    within = f.placed.stage

    at_alloc : word_at e.layout m i ≡ j
    at_alloc = at_word i f.placed.arena within

    abbrev found : ℕ
    found = s.words (Cell.Alloc (word_at e.layout m i))

    found_is : s.words (Cell.Alloc j) ≡ found
    found_is = ap (λ (n : ℕ). s.words (Cell.Alloc n)) (sym at_alloc)

    marks_are : s.words (Cell.Mark j) ≡ marks
    marks_are = f.facts.1

    words_cut : put s.words (Cell.Alloc j) (bit_and (s.words (Cell.Alloc j)) (s.words (Cell.Mark j))) ≡ put s.words (Cell.Alloc (word_at e.layout m i)) (bit_and found marks)
    words_cut = ap (λ (x : ℕ). put s.words (Cell.Alloc j) (bit_and (s.words (Cell.Alloc j)) x)) marks_are ∙ ap (λ (n : ℕ). put s.words (Cell.Alloc n) (bit_and (s.words (Cell.Alloc n)) marks)) (sym at_alloc)

    slot_is : s.slot j ≡ slot_bytes h
    slot_is = let l = within in g.slots j (record { p = p; h = in_sweep h; head = f.is_at.head; from = omega arith; below = omega arith })

    kept_is : kept_in (s.words (Cell.Alloc j)) (s.words (Cell.Mark j)) ≡ kept_in found marks
    kept_is = ap (λ (x : ℕ). kept_in x (s.words (Cell.Mark j))) found_is ∙ ap (λ (x : ℕ). kept_in found x) marks_are

    freed_is : freed_in (s.words (Cell.Alloc j)) (s.words (Cell.Mark j)) ≡ freed_in found marks
    freed_is = ap (λ (x : ℕ). freed_in x (s.words (Cell.Mark j))) found_is ∙ ap (λ (x : ℕ). freed_in found x) marks_are

    bytes_are : (n more now : ℕ) → more ≡ now → n * slot_bytes h + more * s.slot j ≡ (n + now) * slot_bytes h
    bytes_are n more now is =
        let product : more * s.slot j ≡ now * slot_bytes h = ap (λ (x : ℕ). x * s.slot j) is ∙ ap (λ (x : ℕ). now * x) slot_is in
        omega (arith, product, add-mul n now (slot_bytes h))

    abbrev due_then : Due
    due_then = with_word_cut (s.due a) (kept_in (s.words (Cell.Alloc j)) (s.words (Cell.Mark j))) (freed_in (s.words (Cell.Alloc j)) (s.words (Cell.Mark j))) (s.slot j)

    owes_then : due_then ≡ all_owed (counted m i marks found)
    owes_then = grind (arith, bytes_are, freed_is, kept_is, same_due)

    cut_then : (x : ℕ) → x < bit_words h → update s.cut j true (here x) ≡ ltb x (i + 1)
    cut_then x l = elim (eqb_tells j (here x)) [
      | inl y ↦ let same = y.1 in rw (y.0) (sym (lt-ltb x (i + 1) (omega arith)))
      | inr n ↦ let apart = n.1 in rw (n.0) (f.is_at.are_cut x l ∙ next_below i x apart)
    ]

    cut_lands : LandsAt (ClearBits i marks)
    cut_lands = record {
      may = (seat, f.is_at, within);
      words_are = words_cut;
      after = record {
        placed = record { arena = f.placed.arena; head = f.placed.head; stage = within };
        number = f.number;
        right = f.right;
        due = at_entry s.due a due_then ∙ owes_then;
        facts = subst (λ (w : Words). Facts (counted m i marks found) w) (sym words_cut) (facts_then (ClearBits i marks) refl f);
        is_at = record { by = f.is_at.by; head = f.is_at.head; are_cut = cut_then; are_clear = f.is_at.are_clear };
      };
    }

  -- the marks are cleared
  module _ (i : ℕ) (f : SweepFactsAt (ClearMarks i)) where
    at_marks : word_at e.layout m i ≡ here i
    at_marks = at_word i f.placed.arena f.placed.stage

    words_cleared : put s.words (Cell.Mark (here i)) 0 ≡ put s.words (Cell.Mark (word_at e.layout m i)) 0
    words_cleared = ap (λ (n : ℕ). put s.words (Cell.Mark n) 0) (sym at_marks)

    clear_then : (x : ℕ) → x < bit_words h → update s.clear (here i) true (here x) ≡ ltb x (i + 1)
    clear_then x l = elim (eqb_tells (here i) (here x)) [
      | inl y ↦ let same = y.1 in rw (y.0) (sym (lt-ltb x (i + 1) (omega arith)))
      | inr n ↦ let apart = n.1 in rw (n.0) (f.is_at.are_clear x l ∙ next_below i x apart)
    ]

    swept_then : (n : ℕ) → n ≡ i + 1 → Sweeps a p h n n (moved a s (Clears p h i))
    swept_then n is = record {
      by = f.is_at.by;
      head = f.is_at.head;
      are_cut = λ x l. f.is_at.are_cut x l ∙ ap (λ (y : ℕ). ltb x y) (sym is);
      are_clear = λ x l. clear_then x l ∙ ap (λ (y : ℕ). ltb x y) (sym is);
    }

    after_clear : (b : Bool) → ltb (i + 1) (bit_words h) ≡ b → Facts (at_stage m (cond b (LoadMarks (i + 1)) AddTally)) (moved a s (Clears p h i)).words → SweepFacts e a (moved a s (Clears p h i)) (at_stage m (cond b (LoadMarks (i + 1)) AddTally))
    after_clear true is facts = record {
      placed = record { arena = f.placed.arena; head = f.placed.head; stage = ltb-true (i + 1) (bit_words h) is };
      number = f.number;
      right = f.right;
      due = f.due;
      facts = facts;
      is_at = swept_then (i + 1) refl;
    }
    after_clear false is facts = record {
      placed = record { arena = f.placed.arena; head = f.placed.head; stage = tt };
      number = f.number;
      right = f.right;
      due = f.due;
      facts = facts;
      is_at = swept_then (bit_words h) (let least = ltb-false (i + 1) (bit_words h) is in let l = f.placed.stage in omega arith);
    }

    clear_lands : LandsAt (ClearMarks i)
    clear_lands = record {
      may = (f.is_at, f.placed.stage);
      words_are = words_cleared;
      after = after_clear _ refl (subst (λ (w : Words). Facts (at_stage m (cond (ltb (i + 1) (bit_words h)) (LoadMarks (i + 1)) AddTally)) w) (sym words_cleared) (facts_then (ClearMarks i) refl f));
    }

  -- The counts are told.

  tally_lands : SweepFactsAt AddTally → LandsAt AddTally
  tally_lands f = record {
    may = seat;
    words_are = words_told;
    after = record {
      placed = record { arena = f.placed.arena; head = f.placed.head; stage = tt };
      number = f.number;
      right = f.right;
      due = at_entry s.due a (record (s.due a) { kept = 0; freed = 0 }) ∙ ap (λ (d : Due). record d { kept = 0; freed = 0 }) f.due;
      facts = subst (λ (w : Words). Facts (at_stage m AddLive) w) (sym words_told) (facts_then AddTally refl f);
      is_at = record { by = f.is_at.by; head = f.is_at.head; are_cut = f.is_at.are_cut; are_clear = f.is_at.are_clear };
    };
  } where
    words_told : (moved a s TellsTally).words ≡ effect s.words (asks e.layout (at_stage m AddTally))
    words_told = ap (λ (d : Due). put s.words Cell.Tally ((s.words Cell.Tally + tally_word (record { marked = d.kept; freed = d.freed })) % 2 ^ 64)) f.due

  live_lands : SweepFactsAt AddLive → LandsAt AddLive
  live_lands f = record {
    may = seat;
    words_are = words_told;
    after = record {
      placed = record { arena = f.placed.arena; head = f.placed.head; stage = tt };
      number = f.number;
      right = f.right;
      due = at_entry s.due a (record (s.due a) { live = 0 }) ∙ ap (λ (d : Due). record d { live = 0 }) f.due;
      facts = subst (λ (w : Words). Facts (at_stage m AddHeap) w) (sym words_told) (facts_then AddLive refl f);
      is_at = record { by = f.is_at.by; head = f.is_at.head; are_cut = f.is_at.are_cut; are_clear = f.is_at.are_clear };
    };
  } where
    words_told : (moved a s TellsLive).words ≡ effect s.words (asks e.layout (at_stage m AddLive))
    words_told = ap (λ (d : Due). put s.words Cell.Live ((s.words Cell.Live + d.live) % 2 ^ 64)) f.due

  heap_lands : SweepFactsAt AddHeap → LandsAt AddHeap
  heap_lands f = record {
    may = seat;
    words_are = words_told;
    after = record {
      placed = record { arena = f.placed.arena; head = f.placed.head; stage = tt };
      number = f.number;
      right = f.right;
      due = at_entry s.due a (record (s.due a) { cleared = 0 }) ∙ ap (λ (d : Due). record d { cleared = 0 }) f.due;
      facts = subst (λ (w : Words). Facts (at_stage m Finish) w) (sym words_told) (facts_then AddHeap refl f);
      is_at = record { by = f.is_at.by; head = f.is_at.head; are_cut = f.is_at.are_cut; are_clear = f.is_at.are_clear };
    };
  } where
    words_told : (moved a s TellsHeap).words ≡ effect s.words (asks e.layout (at_stage m AddHeap))
    words_told = ap (λ (d : Due). put s.words Cell.Heap ((s.words Cell.Heap + negative d.cleared) % 2 ^ 64)) f.due

  -- The sweep ends.

  finish_lands : SweepFactsAt Finish → LandsAt Finish
  finish_lands f = record {
    may = (f.is_at, f.due);
    words_are = refl;
    after = record {
      placed = record { arena = f.placed.arena; head = f.placed.head; stage = tt };
      number = f.number;
      right = right_then;
      due = f.due;
      facts = tt;
      is_at = tt;
    };
  } where
    none_then : false ≡ true → ⊥
    none_then x = cc

    right_then : (q : ℕ) → (update s.far p Done q ≡ By a) ↔ ((false ≡ true) × (p ≡ q))
    right_then q = elim (eqb_tells p q) [
      | inl y ↦ (λ x. absurd (by_done a (sym (rw (y.0) at x))), λ x. absurd (none_then x.0))
      | inr n ↦ (λ x. absurd (n.1 ((f.right q).0 (rw (n.0) at x)).1), λ x. absurd (none_then x.0))
    ]

  lands_at : (stage : SweepStage) → is_busy stage ≡ true → SweepFactsAt stage → LandsAt stage
  lands_at Begin busy f = begin_at f _ refl
  lands_at (LoadMarks i) busy f = load_lands i f
  lands_at (ClearBits i marks) busy f = cut_lands i marks f
  lands_at (ClearMarks i) busy f = clear_lands i f
  lands_at AddTally busy f = tally_lands f
  lands_at AddLive busy f = live_lands f
  lands_at AddHeap busy f = heap_lands f
  lands_at Finish busy f = finish_lands f
  lands_at (Ended end) busy f = absurd (cc)

pub lands : Known → SweepKeepsItsFacts → (e : CycleEnd) (a : ℕ) (s : Shared) (m : Sweeping) → HasEnded e → Good e (view s) → a < seats_of e.layout → SweepFacts e a s m → is_busy m.stage ≡ true → Lands e a s (move_of m (s.words (cell_of (asks e.layout m)))) (effect s.words (asks e.layout m)) (λ t. SweepFacts e a t (goes m (s.words (cell_of (asks e.layout m)))))
lands k laws e a s m ended g seat f busy = lands_at k laws e ended a s g seat m m.stage busy f
