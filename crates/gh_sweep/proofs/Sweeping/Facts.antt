-- A sweep's own step leads from its facts to the next ones, and they last under what others do.
use Rattle.std.proofs.Common.{◌≡◌, ◌≢◌, ℕ, suc, ◌+◌, ◌*◌, ◌<◌, ◌≤◌, ◌⊎◌, Bool, true, false, cond, eqb, ltb, Some, None, refl, sym, ap, subst, ◌∙◌, arith, inl, inr, bit_and, count_ones, min}
use Rattle.gh_sweep.proofs.Vocabulary.{AddHeap, AddLive, AddTally, alloc_here, Ask, asks_at, at_stage, Begin, bit_at, bit_at-lt, bit_at_and, bit_words, Cell, cell_of, CellsAreTold, ChangesOneCell, ClearBits, ClearMarks, counted, effect, Ended, Facts, FactsAt, Finish, FitsHead, FitsSweep, given_at, HasCleared, HasNotNumber, HasSwept, Head, head_word, in_sweep, is_busy, IsBehind, IsInArena, IsPlaced, IsStage, kept_in, Layout, left, LoadMarks, Lost, marks_here, MayBegin, once_swept, Others, OthersAt, OwnStep, PackedWordsAreReadBack, page_of, put, slots_in, SpanHead, SpansAreApart, SpanStays, sum_below, SweepEnd, Sweeping, SweepKeepsItsFacts, SweepStage, Swept, swept_span, SweptSpan, word_at, Words}
use Rattle.gh_sweep.proofs.Bits.{sum_more, sum_none, sum_same}
use Rattle.gh_sweep.proofs.Sweeping.Steps.{word_is}

-- the number of a head that is packed
pub not_numbered : PackedWordsAreReadBack → (h : SpanHead) (number : ℕ) → FitsHead h → h.number ≢ number → HasNotNumber number (head_word h)
not_numbered packed h number fits ne g e same =
    let back : page_of (head_word h) ≡ Head h = packed.page (Head h) fits in
    let is : g ≡ h = cc in
    ne (ap (λ (k : SpanHead). k.number) (sym is) ∙ same)

-- The facts last.

module _ (s : Sweeping) (before after : Words) where
  swept_lasts : (i : ℕ) → i ≤ bit_words s.head → SpanStays s before after → HasSwept s before i → HasSwept s after i
  swept_lasts i le stays h = record {
    own = stays.head_stays ∙ h.own;
    no_marks = λ j lt. stays.marks_stay j (omega arith) ∙ h.no_marks j lt;
    kept_are = h.kept_are ∙ sum_same _ _ i (λ j lt. ap count_ones (sym (stays.alloc_stays j (omega arith))));
  }

  cleared_lasts : (i : ℕ) → i < bit_words s.head → SpanStays s before after → HasCleared s before i → HasCleared s after i
  cleared_lasts i below stays h = record {
    own = stays.head_stays ∙ h.own;
    no_marks = λ j lt. stays.marks_stay j (omega arith) ∙ h.no_marks j lt;
    are_marked = λ j e. ap (λ (w : ℕ). bit_at w j) (stays.marks_stay i below) ∙ h.are_marked j (ap (λ (w : ℕ). bit_at w j) (sym (stays.alloc_stays i below)) ∙ e);
    kept_are = h.kept_are ∙ sum_same _ _ (i + 1) (λ j lt. ap count_ones (sym (stays.alloc_stays j (omega arith))));
  }

  begin_lasts : OthersAt s before after Begin → MayBegin s before → MayBegin s after
  begin_lasts h h2 = grind arith

  lasts_at : (stage : SweepStage) → IsStage s.head stage → OthersAt s before after stage → FactsAt s before stage → FactsAt s after stage
  lasts_at stage is o h = grind (arith, begin_lasts, cleared_lasts, swept_lasts)

-- A step leaves each cell but its own.

module _ (changes : ChangesOneCell) (cells : CellsAreTold) where
  elsewhere : (words : Words) (step : Ask) (c : Cell) → cell_of step ≢ c → effect words step c ≡ words c
  elsewhere words step c ne = changes words step c ∙ ap (λ (b : Bool). cond b (left step (words (cell_of step))) (words c)) (cells.other (cell_of step) c ne)

  -- a step that is on none of the span's words
  stays_but : (t : Sweeping) (words : Words) (step : Ask) → cell_of step ≢ Cell.Page t.page → ((i : ℕ) → i < bit_words t.head → cell_of step ≢ Cell.Alloc (16 * t.page + i)) → ((i : ℕ) → i < bit_words t.head → cell_of step ≢ Cell.Mark (16 * t.page + i)) → SpanStays t words (effect words step)
  stays_but t words step p a m = record {
    head_stays = elsewhere words step (Cell.Page t.page) p;
    alloc_stays = λ i lt. elsewhere words step (Cell.Alloc (16 * t.page + i)) (a i lt);
    marks_stay = λ i lt. elsewhere words step (Cell.Mark (16 * t.page + i)) (m i lt);
  }

  stays_to_others : (t : Sweeping) (before after : Words) (stage : SweepStage) → SpanStays t before after → OthersAt t before after stage
  stays_to_others t before after stage o = grind arith

  module _ (l : Layout) (s t : Sweeping) (words : Words) (placed : IsPlaced l s) (apart : SpansAreApart s t) (there : IsInArena l t.page t.head) where
    pages_apart : s.page ≢ t.page
    pages_apart e =
        let a : 1 ≤ s.head.pages = placed.arena.some in
        let b : 1 ≤ t.head.pages = there.some in
        elim apart [ inl x ↦ absurd (omega arith) | inr y ↦ absurd (omega arith) ]

    word_here : (i : ℕ) → i < bit_words s.head → word_at l s i ≡ 16 * s.page + i
    word_here i lt = word_is l s.page s.head i placed.arena lt

    bits_apart : (i j : ℕ) → i < bit_words s.head → j < bit_words t.head → word_at l s i ≢ 16 * t.page + j
    bits_apart i j below lt e =
        let is : word_at l s i ≡ 16 * s.page + i = word_here i below in
        let same : 16 * s.page + i ≡ 16 * t.page + j = sym is ∙ e in
        elim apart [ inl x ↦ absurd (omega (arith, same, x)) | inr y ↦ absurd (omega (arith, same, y)) ]

    stays_at : (stage : SweepStage) → IsStage s.head stage → SpanStays t words (effect words (asks_at l s stage))
    stays_at Begin is = stays_but t words (asks_at l s Begin) (λ e. pages_apart (cc)) (λ i lt e. absurd (cc)) (λ i lt e. absurd (cc))
    stays_at (LoadMarks i) is = record { head_stays = refl; alloc_stays = λ j lt. refl; marks_stay = λ j lt. refl }
    stays_at (ClearBits i marks) is = stays_but t words (asks_at l s (ClearBits i marks)) (λ e. absurd (cc)) (λ j lt e. bits_apart i j is lt (cc)) (λ j lt e. absurd (cc))
    stays_at (ClearMarks i) is = stays_but t words (asks_at l s (ClearMarks i)) (λ e. absurd (cc)) (λ j lt e. absurd (cc)) (λ j lt e. bits_apart i j is lt (cc))
    stays_at AddTally is = stays_but t words (asks_at l s AddTally) (λ e. absurd (cc)) (λ i lt e. absurd (cc)) (λ i lt e. absurd (cc))
    stays_at AddLive is = stays_but t words (asks_at l s AddLive) (λ e. absurd (cc)) (λ i lt e. absurd (cc)) (λ i lt e. absurd (cc))
    stays_at AddHeap is = stays_but t words (asks_at l s AddHeap) (λ e. absurd (cc)) (λ i lt e. absurd (cc)) (λ i lt e. absurd (cc))
    stays_at Finish is = stays_but t words (asks_at l s Finish) (λ e. pages_apart (cc)) (λ i lt e. absurd (cc)) (λ i lt e. absurd (cc))
    stays_at (Ended end) is = record { head_stays = refl; alloc_stays = λ j lt. refl; marks_stay = λ j lt. refl }

  -- of the same span, where the other has not begun
  module _ (packed : PackedWordsAreReadBack) (l : Layout) (s : Sweeping) (words : Words) (fits : FitsSweep s.head) where
    abbrev HeadStaysAt : SweepStage → Type 0
    HeadStaysAt stage = (effect words (asks_at l s stage) (Cell.Page s.page) ≡ words (Cell.Page s.page)) ⊎ HasNotNumber s.head.number (effect words (asks_at l s stage) (Cell.Page s.page))

    swept_gone : HasNotNumber s.head.number (head_word (once_swept s.head))
    swept_gone = grind arith

    swap_stays : (b : Bool) → eqb (words (Cell.Page s.page)) (head_word s.head) ≡ b → HeadStaysAt Begin
    swap_stays b e = grind arith

    head_stays_at : (stage : SweepStage) → HeadStaysAt stage
    head_stays_at Begin = swap_stays _ refl
    head_stays_at Finish = inr (subst (λ (w : ℕ). HasNotNumber s.head.number w) (sym (cells.put_here words (Cell.Page s.page) (head_word (once_swept s.head)))) swept_gone)
    head_stays_at _ = inl refl

    behind_stays : (t : Sweeping) → IsBehind s t → Others t words (effect words (asks_at l s s.stage))
    behind_stays t b = subst (λ (stage : SweepStage). OthersAt t words (effect words (asks_at l s s.stage)) stage) (sym b.not_begun) (subst (λ (p : ℕ). HeadAt p t.head.number) b.same_page (subst (λ (n : ℕ). HeadAt s.page n) b.same_number (head_stays_at s.stage))) where
      HeadAt : (page number : ℕ) → Type 0
      HeadAt page number = (effect words (asks_at l s s.stage) (Cell.Page page) ≡ words (Cell.Page page)) ⊎ HasNotNumber number (effect words (asks_at l s s.stage) (Cell.Page page))

  others_stay : PackedWordsAreReadBack → (l : Layout) (s t : Sweeping) (words : Words) → IsPlaced l s → IsPlaced l t → SpansAreApart s t ⊎ IsBehind s t → Others t words (effect words (asks_at l s s.stage))
  others_stay packed l s t words placed there (inl apart) = stays_to_others t words _ t.stage (stays_at l s t words placed apart there.arena s.stage placed.stage)
  others_stay packed l s t words placed there (inr behind) = behind_stays packed l s words placed.head t behind

-- The own step.

module _ (changes : ChangesOneCell) (cells : CellsAreTold) (l : Layout) (s : Sweeping) (words : Words) (arena : IsInArena l s.page s.head) where
  own_word : (i : ℕ) → i < bit_words s.head → word_at l s i ≡ 16 * s.page + i
  own_word i lt = word_is l s.page s.head i arena lt

  abbrev StepAt : SweepStage → Type 0
  StepAt stage = OwnStep l (record s { stage = stage }) words

  nothing_given : (end : SweepEnd) → None ≡ Some end → ⊥
  nothing_given end e = absurd (cc)

  -- before it has begun
  abbrev begun_words : Words
  begun_words = put words (Cell.Page s.page) (head_word (in_sweep s.head))

  begin_leads : MayBegin s words → (b : Bool) → eqb (words (Cell.Page s.page)) (head_word s.head) ≡ b → Facts (at_stage s (cond b (LoadMarks 0) (Ended Lost))) (cond b begun_words words)
  begin_leads h true e = record { own = cells.put_here words (Cell.Page s.page) (head_word (in_sweep s.head)); no_marks = λ j lt. absurd (omega arith); kept_are = h.none_kept ∙ sym (sum_none (λ j. count_ones (alloc_here s begun_words j))) }
  begin_leads h false e = tt

  begin_lost : MayBegin s words → (b : Bool) → eqb (words (Cell.Page s.page)) (head_word s.head) ≡ b → given_at (cond b (LoadMarks 0) (Ended Lost)) ≡ Some Lost → HasNotNumber s.head.number (cond b begun_words words (Cell.Page s.page))
  begin_lost h b e g = grind arith

  begin_swept : (span : SweptSpan) → (b : Bool) → given_at (cond b (LoadMarks 0) (Ended Lost)) ≡ Some (Swept span) → ⊥
  begin_swept span b g = grind arith

  begin_step : MayBegin s words → StepAt Begin
  begin_step h = grind (arith, begin_leads, begin_lost, begin_swept)

  -- a word's three steps
  load_step : (i : ℕ) → i < bit_words s.head → HasSwept s words i → StepAt (LoadMarks i)
  load_step i lt h = record {
    may = h.own;
    leads = (record { own = h.own; no_marks = h.no_marks; kept_are = h.kept_are }, ap (λ (n : ℕ). words (Cell.Mark n)) (sym (own_word i lt)));
    lost = λ g. absurd (nothing_given Lost g);
    swept = λ span g. absurd (nothing_given (Swept span) g);
  }

  module _ (i marks : ℕ) (lt : i < bit_words s.head) (h : HasSwept s words i) (are : marks_here s words i ≡ marks) where
    abbrev cut_words : Words
    cut_words = put words (Cell.Alloc (16 * s.page + i)) (bit_and (alloc_here s words i) marks)

    stays_marked : (j : ℕ) → bit_at (marks_here s words i) j ≡ 1 → bit_at (bit_and (alloc_here s words i) marks) j ≡ bit_at (alloc_here s words i) j
    stays_marked j e =
        let one : bit_at marks j ≡ 1 = ap (λ (w : ℕ). bit_at w j) (sym are) ∙ e in
        bit_at_and (alloc_here s words i) marks j ∙ ap (λ (n : ℕ). min (bit_at (alloc_here s words i) j) n) one ∙ least (bit_at (alloc_here s words i) j) (bit_at-lt (alloc_here s words i) j) where
          least : (b : ℕ) → b < 2 → min b 1 ≡ b
          least b small = omega arith

    cut_is : cut_words (Cell.Alloc (16 * s.page + i)) ≡ bit_and (alloc_here s words i) marks
    cut_is = cells.put_here words (Cell.Alloc (16 * s.page + i)) (bit_and (alloc_here s words i) marks)

    cut_other : (j : ℕ) → j < i → alloc_here s words j ≡ alloc_here s cut_words j
    cut_other j below = sym (cells.put_elsewhere words (Cell.Alloc (16 * s.page + i)) (Cell.Alloc (16 * s.page + j)) (bit_and (alloc_here s words i) marks) (λ e. let same : 16 * s.page + i ≡ 16 * s.page + j = cc in absurd (omega arith)))

    kept_then : s.kept + kept_in (alloc_here s words i) marks ≡ sum_below (λ j. count_ones (alloc_here s cut_words j)) (i + 1)
    kept_then =
        let below : sum_below (λ j. count_ones (alloc_here s words j)) i ≡ sum_below (λ j. count_ones (alloc_here s cut_words j)) i = sum_same _ _ i (λ j b. ap count_ones (cut_other j b)) in
        let here : count_ones (alloc_here s cut_words i) ≡ kept_in (alloc_here s words i) marks = ap count_ones cut_is in
        let next : i + 1 ≡ suc i = omega arith in
        let more = sum_more (λ j. count_ones (alloc_here s cut_words j)) i in
        let is = h.kept_are in
        rw next (omega (arith, below, here, more, is))

    marked_then : (j : ℕ) → bit_at (alloc_here s cut_words i) j ≡ 1 → bit_at (marks_here s words i) j ≡ 1
    marked_then j e =
        let is : min (bit_at (alloc_here s words i) j) (bit_at marks j) ≡ 1 = sym (bit_at_and (alloc_here s words i) marks j) ∙ ap (λ (w : ℕ). bit_at w j) (sym cut_is) ∙ e in
        ap (λ (w : ℕ). bit_at w j) are ∙ both (bit_at (alloc_here s words i) j) (bit_at marks j) (bit_at-lt (alloc_here s words i) j) (bit_at-lt marks j) is where
          both : (a m : ℕ) → a < 2 → m < 2 → min a m ≡ 1 → m ≡ 1
          both a m small low is = omega arith

    cleared_then : HasCleared (counted s i marks (alloc_here s words i)) cut_words i
    cleared_then = grind (arith, kept_then, marked_then)

    clear_step : StepAt (ClearBits i marks)
    clear_step = grind (arith, cleared_then, nothing_given, own_word, stays_marked)

  module _ (i : ℕ) (lt : i < bit_words s.head) (h : HasCleared s words i) where
    abbrev unmarked_words : Words
    unmarked_words = put words (Cell.Mark (16 * s.page + i)) 0

    at_next : (b : Bool) → ltb (i + 1) (bit_words s.head) ≡ b → Facts (at_stage s (cond b (LoadMarks (i + 1)) AddTally)) unmarked_words
    at_next b e = grind arith

    goes_on : (end : SweepEnd) (b : Bool) → given_at (cond b (LoadMarks (i + 1)) AddTally) ≡ Some end → ⊥
    goes_on end b e = grind arith

    clear_marks_step : StepAt (ClearMarks i)
    clear_marks_step = grind (arith, at_next, goes_on, own_word)

  -- the counts
  module _ (h : HasSwept s words (bit_words s.head)) where
    tally_step : StepAt AddTally
    tally_step = record { may = h.own; leads = record { own = h.own; no_marks = h.no_marks; kept_are = h.kept_are }; lost = λ g. absurd (nothing_given Lost g); swept = λ span g. absurd (nothing_given (Swept span) g) }

    live_step : StepAt AddLive
    live_step = record { may = h.own; leads = record { own = h.own; no_marks = h.no_marks; kept_are = h.kept_are }; lost = λ g. absurd (nothing_given Lost g); swept = λ span g. absurd (nothing_given (Swept span) g) }

    heap_step : StepAt AddHeap
    heap_step = record { may = h.own; leads = record { own = h.own; no_marks = h.no_marks; kept_are = h.kept_are }; lost = λ g. absurd (nothing_given Lost g); swept = λ span g. absurd (nothing_given (Swept span) g) }

    is_it : (span : SweptSpan) → Some (Swept (swept_span s)) ≡ Some (Swept span) → span ≡ swept_span s
    is_it span g = cc

    finish_step : StepAt Finish
    finish_step = record {
      may = (h.own, h.no_marks);
      leads = tt;
      lost = λ g. absurd (cc);
      swept = λ span g. record {
        head_is = cells.put_here words (Cell.Page s.page) (head_word (once_swept s.head));
        no_marks = h.no_marks;
        kept_are = ap (λ (x : SweptSpan). x.kept) (is_it span g) ∙ h.kept_are;
        clear_is = subst (λ (x : SweptSpan). x.clear ≡ ltb x.kept (slots_in s.head.class)) (sym (is_it span g)) refl;
      };
    }

  own_step_at : (stage : SweepStage) → IsStage s.head stage → is_busy stage ≡ true → FactsAt s words stage → StepAt stage
  own_step_at Begin is busy h = begin_step h
  own_step_at (LoadMarks i) is busy h = load_step i is h
  own_step_at (ClearBits i marks) is busy h = clear_step i marks is h.0 h.1
  own_step_at (ClearMarks i) is busy h = clear_marks_step i is h
  own_step_at AddTally is busy h = tally_step h
  own_step_at AddLive is busy h = live_step h
  own_step_at AddHeap is busy h = heap_step h
  own_step_at Finish is busy h = finish_step h
  own_step_at (Ended end) is busy h = absurd (cc)

pub keeps : ChangesOneCell → CellsAreTold → PackedWordsAreReadBack → SweepKeepsItsFacts
keeps changes cells packed = record {
  own = λ l s words placed busy h. own_step_at changes cells l s words placed.arena s.stage placed.stage busy h;
  last = λ l s before after placed others h. lasts_at s before after s.stage placed.stage others h;
  others = λ l s t words placed there where_are. others_stay changes cells packed l s t words placed there where_are;
}
