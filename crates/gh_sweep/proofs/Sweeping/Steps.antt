-- The steps of a sweep: what it is after each of them.
use Rattle.std.proofs.Common.{◌≡◌, ◌≢◌, ℕ, zero, suc, ◌+◌, ◌-◌, ◌*◌, ◌/◌, ◌%◌, ◌<◌, ◌≤◌, ◌⊎◌, Bool, true, false, cond, eqb, ltb, is_none, Some, refl, sym, ap, subst, ◌∙◌, arith}
use Rattle.std.proofs.lemmas.Bool.{eqb-true, eq-eqb, ltb-true, ltb-false, lt-ltb, le-ltb}
use Rattle.gh_sweep.proofs.Vocabulary.{AddHeap, AddLive, AddTally, after, alloc_told, And, asks, Begin, bit_words, Cell, ClearBits, ClearMarks, Ended, EndsBy, EndsWithin, Finish, freed, freed_in, freed_told, gives, goes, GoesOn, head_word, is_busy, IsBegun, IsInArena, kept, kept_in, kept_told, Layout, listing, Load, LoadMarks, Lost, marks_told, mod-eq_of_lt, opening, span_of, SpanHead, steps_of, steps_on_bits, StepsOnCounts, StepsOnWord, Store, SweepEnd, Sweeping, SweepStage, SweepTakesItsSteps, Swept, SweptSpan}
use Rattle.gh_sweep.proofs.Bits.{sum_more, sum_none}

-- where word i of the span's bits lies
pub word_is : (l : Layout) (page : ℕ) (head : SpanHead) (i : ℕ) → IsInArena l page head → i < bit_words head → (16 * page + i) % (16 * l.pages) ≡ 16 * page + i
word_is l page head i arena lt = let w : page + head.pages ≤ l.pages = arena.within in mod-eq_of_lt (omega arith)

module _ (l : Layout) (page : ℕ) (head : SpanHead) (found : ℕ → ℕ) where
  -- it is at this stage, and has counted the bits of so many words
  abbrev pub at : ℕ → SweepStage → Sweeping
  at words stage = record { page = page; head = head; kept = kept_told found words; freed = freed_told found words; stage = stage }

  abbrev now : ℕ → Sweeping
  now n = after l page head found n

  begins_at : opening page head ≡ at 0 Begin
  begins_at =
      let k : 0 ≡ kept_told found 0 = sym (sum_none (λ i. kept_in (alloc_told found i) (marks_told found i))) in
      let f : 0 ≡ freed_told found 0 = sym (sum_none (λ i. freed_in (alloc_told found i) (marks_told found i))) in
      ap (λ (n : ℕ). record { page = page; head = head; kept = n; freed = 0; stage = Begin }) k ∙ ap (λ (n : ℕ). record { page = page; head = head; kept = kept_told found 0; freed = n; stage = Begin }) f

  abbrev counted_span : SweptSpan
  counted_span = span_of head (kept l page head found) (freed l page head found)

  is_other : eqb (found 0) (head_word head) ≡ false → found 0 ≢ head_word head
  is_other e z = absurd (cc (e, eq-eqb _ _ z))

  -- Where the swap has written.
  module _ (begun : IsBegun l page head found) (some : 1 ≤ head.pages) where
    abbrev words : ℕ
    words = bit_words head

    swapped : (b : Bool) → eqb (found 0) (head_word head) ≡ b → b ≡ true → goes (at 0 Begin) (found 0) ≡ at 0 (LoadMarks 0)
    swapped b e is = ap (λ (c : Bool). at 0 (cond c (LoadMarks 0) (Ended Lost))) (e ∙ is)

    loads_first : now 1 ≡ at 0 (LoadMarks 0)
    loads_first = grind (arith, begins_at, swapped)

    counts_word : (i n : ℕ) → n ≡ 2 + 3 * i → goes (at i (ClearBits i (marks_told found i))) (found n) ≡ at (suc i) (ClearMarks i)
    counts_word i n e =
        let k : kept_told found i + kept_in (found n) (marks_told found i) ≡ kept_told found (suc i) = ap (λ (m : ℕ). kept_told found i + kept_in (found m) (marks_told found i)) e ∙ sym (sum_more (λ j. kept_in (alloc_told found j) (marks_told found j)) i) in
        let f : freed_told found i + freed_in (found n) (marks_told found i) ≡ freed_told found (suc i) = ap (λ (m : ℕ). freed_told found i + freed_in (found m) (marks_told found i)) e ∙ sym (sum_more (λ j. freed_in (alloc_told found j) (marks_told found j)) i) in
        ap (λ (m : ℕ). record { page = page; head = head; kept = m; freed = freed_told found i + freed_in (found n) (marks_told found i); stage = ClearMarks i }) k ∙ ap (λ (m : ℕ). record { page = page; head = head; kept = kept_told found (suc i); freed = m; stage = ClearMarks i }) f

    clears_next : (i : ℕ) → now (1 + 3 * i) ≡ at i (LoadMarks i) → now (2 + 3 * i) ≡ at i (ClearBits i (marks_told found i))
    clears_next i e =
        let next : 2 + 3 * i ≡ suc (1 + 3 * i) = omega arith in
        ap now next ∙ ap (λ (s : Sweeping). goes s (found (1 + 3 * i))) e

    clears_marks_next : (i : ℕ) → now (2 + 3 * i) ≡ at i (ClearBits i (marks_told found i)) → now (3 + 3 * i) ≡ at (suc i) (ClearMarks i)
    clears_marks_next i e = grind (arith, counts_word)

    -- behind a word's three steps
    behind_word : (i : ℕ) → now (3 + 3 * i) ≡ at (suc i) (ClearMarks i) → now (1 + 3 * suc i) ≡ at (suc i) (cond (ltb (i + 1) words) (LoadMarks (i + 1)) AddTally)
    behind_word i e =
        let next : 1 + 3 * suc i ≡ suc (3 + 3 * i) = omega arith in
        ap now next ∙ ap (λ (s : Sweeping). goes s (found (3 + 3 * i))) e

    loads : (i : ℕ) → i < words → now (1 + 3 * i) ≡ at i (LoadMarks i)
    loads zero lt = loads_first
    loads (suc i) lt =
        let e = behind_word i (clears_marks_next i (clears_next i (loads i (omega arith)))) in
        let one : i + 1 ≡ suc i = omega arith in
        let more : ltb (i + 1) words ≡ true = lt-ltb (i + 1) words (omega arith) in
        e ∙ ap (λ (b : Bool). at (suc i) (cond b (LoadMarks (i + 1)) AddTally)) more ∙ ap (λ (n : ℕ). at (suc i) (LoadMarks n)) one

    clears : (i : ℕ) → i < words → now (2 + 3 * i) ≡ at i (ClearBits i (marks_told found i))
    clears i lt = grind (arith, clears_next, loads)

    clears_marks : (i : ℕ) → i < words → now (3 + 3 * i) ≡ at (suc i) (ClearMarks i)
    clears_marks i lt = grind (arith, clears, clears_marks_next)

    tells : now (steps_on_bits head) ≡ at words AddTally
    tells =
        let last : words ≡ suc (words - 1) = omega arith in
        let lt : words - 1 < words = omega arith in
        let none : ltb (words - 1 + 1) words ≡ false = le-ltb (words - 1 + 1) words (omega arith) in
        ap (λ (n : ℕ). now (1 + 3 * n)) last ∙ behind_word (words - 1) (clears_marks (words - 1) lt) ∙ ap (λ (b : Bool). at (suc (words - 1)) (cond b (LoadMarks (words - 1 + 1)) AddTally)) none ∙ ap (λ (n : ℕ). at n AddTally) (sym last)

    tells_live : now (steps_on_bits head + 1) ≡ at words AddLive
    tells_live = grind (arith, tells)

    tells_heap : now (steps_on_bits head + 2) ≡ at words AddHeap
    tells_heap = grind (arith, tells_live)

    finishes : now (steps_on_bits head + 3) ≡ at words Finish
    finishes = grind (arith, tells_heap)

    over : (k : ℕ) → now (steps_on_bits head + 4 + k) ≡ at words (Ended (Swept counted_span))
    over zero =
        let next : steps_on_bits head + 4 + 0 ≡ suc (steps_on_bits head + 3) = omega arith in
        ap now next ∙ ap (λ (s : Sweeping). goes s (found (steps_on_bits head + 3))) finishes
    over (suc k) =
        let next : steps_on_bits head + 4 + suc k ≡ suc (steps_on_bits head + 4 + k) = omega arith in
        ap now next ∙ ap (λ (s : Sweeping). goes s (found (steps_on_bits head + 4 + k))) (over k)

    -- What holds of each stage that it comes to holds after each step.
    record OfStages (P : ℕ → Sweeping → Type 0) : Type 0 where
      begin : P 0 (at 0 Begin)
      load : (i : ℕ) → i < words → P (1 + 3 * i) (at i (LoadMarks i))
      clear : (i : ℕ) → i < words → P (2 + 3 * i) (at i (ClearBits i (marks_told found i)))
      clear_marks : (i : ℕ) → i < words → P (3 + 3 * i) (at (suc i) (ClearMarks i))
      tally : P (steps_on_bits head) (at words AddTally)
      live : P (steps_on_bits head + 1) (at words AddLive)
      heap : P (steps_on_bits head + 2) (at words AddHeap)
      finish : P (steps_on_bits head + 3) (at words Finish)
      end : (k : ℕ) → P (steps_on_bits head + 4 + k) (at words (Ended (Swept counted_span)))

    here : (P : ℕ → Sweeping → Type 0) (n m : ℕ) (s : Sweeping) → n ≡ m → now m ≡ s → P m s → P n (now n)
    here P n m s e is p = subst (λ (k : ℕ). P k (now k)) (sym e) (subst (λ (t : Sweeping). P m t) (sym is) p)

    of_stages : (P : ℕ → Sweeping → Type 0) → OfStages P → (n : ℕ) → P n (now n)
    of_stages P o zero = subst (λ (s : Sweeping). P 0 s) (sym begins_at) o.begin
    of_stages P o (suc n) = in_words (ltb n (3 * words)) refl where
      by_third : n < 3 * words → (b c : Bool) → eqb (n % 3) 0 ≡ b → eqb (n % 3) 1 ≡ c → P (suc n) (now (suc n))
      by_third lt true c e f = let z : n % 3 ≡ 0 = eqb-true _ _ e in here P (suc n) (1 + 3 * (n / 3)) _ (omega arith) (loads (n / 3) (omega arith)) (o.load (n / 3) (omega arith))
      by_third lt false true e f = let z : n % 3 ≡ 1 = eqb-true _ _ f in here P (suc n) (2 + 3 * (n / 3)) _ (omega arith) (clears (n / 3) (omega arith)) (o.clear (n / 3) (omega arith))
      by_third lt false false e f =
          let x : n % 3 ≢ 0 = λ z. absurd (cc (e, eq-eqb _ _ z)) in
          let y : n % 3 ≢ 1 = λ z. absurd (cc (f, eq-eqb _ _ z)) in
          here P (suc n) (3 + 3 * (n / 3)) _ (omega arith) (clears_marks (n / 3) (omega arith)) (o.clear_marks (n / 3) (omega arith))

      by_last : 3 * words ≤ n → (k : ℕ) → n ≡ 3 * words + k → P (suc n) (now (suc n))
      by_last ge zero e = here P (suc n) (steps_on_bits head) _ (omega arith) tells o.tally
      by_last ge (suc zero) e = here P (suc n) (steps_on_bits head + 1) _ (omega arith) tells_live o.live
      by_last ge (suc (suc zero)) e = here P (suc n) (steps_on_bits head + 2) _ (omega arith) tells_heap o.heap
      by_last ge (suc (suc (suc zero))) e = here P (suc n) (steps_on_bits head + 3) _ (omega arith) finishes o.finish
      by_last ge (suc (suc (suc (suc k)))) e = here P (suc n) (steps_on_bits head + 4 + k) _ (omega arith) (over k) (o.end k)

      in_words : (b : Bool) → ltb n (3 * words) ≡ b → P (suc n) (now (suc n))
      in_words true e = by_third (ltb-true _ _ e) (eqb (n % 3) 0) (eqb (n % 3) 1) refl refl
      in_words false e = let ge : 3 * words ≤ n = ltb-false _ _ e in by_last ge (n - 3 * words) (omega arith)

    -- it goes on up to the last of its steps
    goes_on_until : (n : ℕ) → is_busy (now n).stage ≡ ltb n (steps_on_bits head + 4)
    goes_on_until = of_stages (λ n s. is_busy s.stage ≡ ltb n (steps_on_bits head + 4)) (record {
      begin = sym (lt-ltb 0 (steps_on_bits head + 4) (omega arith));
      load = λ i lt. sym (lt-ltb (1 + 3 * i) (steps_on_bits head + 4) (omega arith));
      clear = λ i lt. sym (lt-ltb (2 + 3 * i) (steps_on_bits head + 4) (omega arith));
      clear_marks = λ i lt. sym (lt-ltb (3 + 3 * i) (steps_on_bits head + 4) (omega arith));
      tally = sym (lt-ltb (steps_on_bits head) (steps_on_bits head + 4) (omega arith));
      live = sym (lt-ltb (steps_on_bits head + 1) (steps_on_bits head + 4) (omega arith));
      heap = sym (lt-ltb (steps_on_bits head + 2) (steps_on_bits head + 4) (omega arith));
      finish = sym (lt-ltb (steps_on_bits head + 3) (steps_on_bits head + 4) (omega arith));
      end = λ k. sym (le-ltb (steps_on_bits head + 4 + k) (steps_on_bits head + 4) (omega arith));
    })

    -- and by that one it gives what it has counted
    gives_counted : gives (now (steps_on_bits head + 3)) (found (steps_on_bits head + 3)) ≡ Some (Swept counted_span)
    gives_counted = grind (arith, finishes)

    last_is : (n : ℕ) (end : SweepEnd) → EndsBy l page head found n end → n ≡ steps_on_bits head + 3
    last_is n end h = by (ltb (suc n) (steps_on_bits head + 4)) refl where
      by : (b : Bool) → ltb (suc n) (steps_on_bits head + 4) ≡ b → n ≡ steps_on_bits head + 3
      by true e = absurd (let over : is_busy (now (suc n)).stage ≡ false = ap is_none h.1 in let more = goes_on_until (suc n) ∙ e in cc)
      by false e = omega (arith, ltb-true _ _ (sym (goes_on_until n) ∙ h.0), ltb-false _ _ e)

    gives_last : (n : ℕ) (end : SweepEnd) → EndsBy l page head found n end → Some end ≡ Some (Swept counted_span)
    gives_last n end h = sym h.1 ∙ (ap (λ (k : ℕ). gives (now k) (found k)) (last_is n end h) ∙ gives_counted)

  -- Where the swap has not written it has ended.
  module _ (other : found 0 ≢ head_word head) where
    not_begun : (b : Bool) → eqb (found 0) (head_word head) ≡ b → b ≡ false
    not_begun b e = grind arith

    over_at_once : (n : ℕ) → now (suc n) ≡ at 0 (Ended Lost)
    over_at_once zero = ap (λ (s : Sweeping). goes s (found 0)) begins_at ∙ ap (λ (b : Bool). at 0 (cond b (LoadMarks 0) (Ended Lost))) (not_begun _ refl)
    over_at_once (suc n) = ap (λ (s : Sweeping). goes s (found (suc n))) (over_at_once n)

    not_busy : (n : ℕ) → is_busy (now (suc n)).stage ≡ false
    not_busy n = grind (arith, over_at_once)

    lost_first : gives (now 0) (found 0) ≡ Some Lost
    lost_first = grind arith

  module _ (arena : IsInArena l page head) where
    on_word : IsBegun l page head found → (i : ℕ) → i < bit_words head → StepsOnWord l page head found i
    on_word begun i lt = record {
      loads_marks = ap (asks l) (loads begun arena.some i lt) ∙ ap (λ (n : ℕ). Load (Cell.Mark n)) (word_is l page head i arena lt);
      clears_bits = ap (asks l) (clears begun arena.some i lt) ∙ ap (λ (n : ℕ). And (Cell.Alloc n) (marks_told found i)) (word_is l page head i arena lt);
      clears_marks = ap (asks l) (clears_marks begun arena.some i lt) ∙ ap (λ (n : ℕ). Store (Cell.Mark n) 0) (word_is l page head i arena lt);
    }

    on_counts : IsBegun l page head found → StepsOnCounts l page head found
    on_counts begun = grind (arith, finishes, tells, tells_heap, tells_live)

    goes_on_from : (n : ℕ) → (b : Bool) → eqb (found 0) (head_word head) ≡ b → GoesOn l page head found n → (n ≡ 0) ⊎ (IsBegun l page head found × (n < steps_on_bits head + 4))
    goes_on_from n b e busy = grind (arith, goes_on_until, is_other, not_busy, over)

    goes_on_to : (n : ℕ) → (n ≡ 0) ⊎ (IsBegun l page head found × (n < steps_on_bits head + 4)) → GoesOn l page head found n
    goes_on_to n h = grind (arith, goes_on_until)

    lost_from : (n : ℕ) → (b : Bool) → eqb (found 0) (head_word head) ≡ b → EndsBy l page head found n Lost → (n ≡ 0) × (found 0 ≢ head_word head)
    lost_from n b e h = grind (arith, gives_last, is_other, not_busy, over)

    lost_to : (n : ℕ) → (n ≡ 0) × (found 0 ≢ head_word head) → EndsBy l page head found n Lost
    lost_to n h = subst (λ (k : ℕ). EndsBy l page head found k Lost) (sym h.0) (refl, lost_first h.1)

    ends_by : (b : Bool) → eqb (found 0) (head_word head) ≡ b → EndsWithin (steps_of l (listing l)) (steps_on_bits head + 4) (opening page head) found
    ends_by b e = grind (arith, goes_on_until, is_other, not_busy)

    swept_from : (n : ℕ) (span : SweptSpan) → (b : Bool) → eqb (found 0) (head_word head) ≡ b → EndsBy l page head found n (Swept span) → IsBegun l page head found × (n ≡ steps_on_bits head + 3) × (span ≡ counted_span)
    swept_from n span true e h =
        let begun : IsBegun l page head found = eqb-true _ _ e in
        let counted = gives_last begun arena.some n (Swept span) h in
        (begun, last_is begun arena.some n (Swept span) h, cc)
    swept_from zero span false e h = absurd (let ends = h.1 in let lost = lost_first (is_other e) in cc)
    swept_from (suc n) span false e h = absurd (let busy = h.0 in let over = not_busy (is_other e) n in cc)

    swept_to : (n : ℕ) (span : SweptSpan) → IsBegun l page head found × (n ≡ steps_on_bits head + 3) × (span ≡ counted_span) → EndsBy l page head found n (Swept span)
    swept_to n span h = grind (arith, gives_counted, goes_on_to)

pub takes_its_steps : SweepTakesItsSteps
takes_its_steps l page head found arena = record {
  begins = refl;
  lost = λ n. (lost_from l page head found arena n _ refl, lost_to l page head found arena n);
  on_words = on_word l page head found arena;
  on_counts = on_counts l page head found arena;
  goes_on = λ n. (goes_on_from l page head found arena n _ refl, goes_on_to l page head found arena n);
  ends = ends_by l page head found arena _ refl;
  swept = λ n span. (swept_from l page head found arena n span _ refl, swept_to l page head found arena n span);
}
