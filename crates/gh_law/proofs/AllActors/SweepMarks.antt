-- What the one state says of the numbers of spans, and of marks while no cycle is marked: of each word of bits it says whether a sweep has cut it and cleared its marks.
use Rattle.std.proofs.Common.{◌≡◌, ◌⊎◌, inl, inr, ℕ, ◌+◌, ◌-◌, ◌*◌, ◌/◌, ◌<◌, ◌≤◌, ◌==◌, Bool, true, false, cond, ltb, refl, sym, ap, subst, ◌∙◌, arith, List, [], ◌∷◌, Option, Some, None, ◌%◌}
use Rattle.gh_law.proofs.Vocabulary.{Actor, actors_after, alloc_words, Arena, arena, bit_at, bit_at-zero, CachedAreSwept, Cell, Check, Close, CloseStage, ClosingIsBusy, Coordinating, CoordStage, Count, CycleEnd, EachSpanIsSwept, Entry, ever, Far, generation_at, goes_then, HasState, Head, HoldsAt, HoldsItsOwn, InSpan, IsBeginning, IsClosing, IsInLimits, IsInSweep, IsLed, IsMarking, IsNumbered, IsOwnSpan, IsRunning, IsTelling, IsUncut, IsUnderWay, Known, KnowsAt, Legal, mark_words, MarkOn, marks_at, marks_in, MarksAreLeft, Name, nat_tests, once, Op, Open, other, OwnedAreSwept, owner_in, page_of, page_words, PageWord, Polling, processor_at, Reach, Rests, Row, row_bit, SaysFar, SaysHowFar, seats_of, seen_by_sweep, Setup, SpanHead, SpansAreNumbered, State, StopAgain, Sweep, sweep_of, sweep_over, Sweeping, SweepsStand, SweepStage, Task, Tell, TellStage, those, Told, Unswept, View, view, Watch, Words, words}
use Rattle.gh_sweep.specs.Listing.{bit_words}
use Rattle.gh_sweep.specs.Moves.{Sweeps}
use Rattle.gh_sweep.specs.Shared.{Done}
use Rattle.gh_sweep.specs.Shared as sweep
use Rattle.gh_sweep.specs.Sound.{reached}
use Rattle.gh_sweep.specs.Sweepers.{has_span, HasReached, marks_cleared}
use Rattle.gh_coord.specs.Closing as closes_by
use Rattle.gh_coord.specs.Handshake as leading
use Rattle.gh_state.specs.Routines.{SweepRuns}
use Rattle.gh_holds.specs.HasAt.{has_at}

-- bits of two rows are the same where their words are
same_bit : (row other : Row) (x : ℕ) → row (x / 64) ≡ other (x / 64) → row_bit row x ≡ row_bit other x
unfolding row_bit
same_bit row other x is = ap (λ (v : ℕ). bit_at v (x % 64)) is

no_bit : (row : Row) (x : ℕ) → row (x / 64) ≡ 0 → row_bit row x ≡ 1 → ⊥
unfolding row_bit
no_bit row x is set = let same : 0 ≡ 1 = sym (bit_at-zero (x % 64)) ∙ (sym (ap (λ (v : ℕ). bit_at v (x % 64)) is) ∙ set) in absurd (omega (arith, same))

-- What a head's number says of how far its span is.

how_far : (generation : ℕ) (h : SpanHead) (f : Far) → IsNumbered generation h f → SaysHowFar generation h
how_far generation h f is = grind arith

unswept_is : (generation : ℕ) (h : SpanHead) (f : Far) → IsNumbered generation h f → h.number + 2 ≡ generation → f ≡ Unswept
unswept_is generation h f is number = grind arith

done_is : (generation : ℕ) (h : SpanHead) (f : Far) → IsNumbered generation h f → h.number ≡ generation → f ≡ Done
done_is generation h f is number = grind arith

number_is : (generation : ℕ) (h : SpanHead) (f : Far) → IsNumbered generation h f → f ≡ Done → h.number ≡ generation
number_is generation h f is done = subst (IsNumbered generation h) done is

-- How far the sweep of a span is.
sweeps_so : (a : ℕ) (s : sweep.Shared) (m : Sweeping) (p : SweepStage) → has_span p ≡ true → HasReached a s m p → Sweeps a m.page m.head (reached m.head p) (marks_cleared m.head p) s
sweeps_so a s m p own is = grind arith

-- A processor that runs knows what it has cached.
new_rests : (z : Arena) (a : ℕ) (v : View) (p : Polling) (t : Task) → IsRunning t → KnowsAt z a v p t → Rests z a v p
new_rests z a v p t run is = grind arith

module _ (setup : Setup) (es : List (Entry Op)) (has : HasState setup es) where
  abbrev s : State
  s = has.state

  -- who sweeps, at each seat
  abbrev pub sweeps : ℕ → Option Sweeping
  sweeps who = sweep_of (actors_after (arena setup) setup.pacing setup.may es who)

  abbrev e : CycleEnd
  e = has.state.end

  abbrev now : Words
  now = has.state.heap.words

  abbrev good : sweep.Good has.state.end (sweep.view (seen_by_sweep has.state))
  good = has.good.sweep

  told_are : now ≡ words setup es
  told_are = has.of_list.words_are

  generation : now Cell.Gen ≡ generation_at e
  generation = good.generation

  number_at : (p : ℕ) (h : SpanHead) → page_of (now (Cell.Page p)) ≡ Head h → IsNumbered (now Cell.Gen) h (s.far p)
  number_at p h is = subst (λ (n : ℕ). IsNumbered n h (s.far p)) (sym generation) (subst (λ (x : PageWord). SaysFar (generation_at e) x (s.far p)) is (good.numbers p))

  numbers_now : SpansAreNumbered now
  numbers_now p h is = how_far (now Cell.Gen) h (s.far p) (number_at p h is)

  owned_now : OwnedAreSwept now
  owned_now p h is owned = (has.good.heap.numbers p h is).owned owned

  swept_now : ((p : ℕ) → s.far p ≡ Done) → EachSpanIsSwept now
  swept_now far p h is = number_is (now Cell.Gen) h (s.far p) (number_at p h is) (far p)

  pub spans_numbered : SpansAreNumbered (words setup es)
  spans_numbered = subst SpansAreNumbered told_are numbers_now

  pub owned_swept : OwnedAreSwept (words setup es)
  owned_swept = subst OwnedAreSwept told_are owned_now

  pub all_swept : ((p : ℕ) → s.far p ≡ Done) → EachSpanIsSwept (words setup es)
  all_swept far = subst EachSpanIsSwept told_are (swept_now far)

  -- what a processor has cached
  pub cached_swept : (a : ℕ) → a < setup.layout.procs → CachedAreSwept (words setup es) a (processor_at setup es a)
  cached_swept a lt = subst (λ (w : Words). CachedAreSwept w a (processor_at setup es a)) told_are go where
    go : CachedAreSwept now a (processor_at setup es a)
    go run c k few is =
        let rests = new_rests (arena setup) a (view s.heap) (processor_at setup es a).poll (processor_at setup es a).task run (has.of_list.processors a lt).fine.knows in
        let held = (rests.knows.caches c k few is).span in
        let owner : held.h.owner ≡ a + 1 = ap owner_in (sym held.head) ∙ (has.good.heap.owners a k.head).1 held.held in
        record { h = held.h; head = held.head; owner = owner; swept = owned_now k.head held.h held.head (λ none. let no : 0 ≡ a + 1 = sym none ∙ owner in absurd (omega (arith, no))) }

  -- who is said to own a page owns a span that begins there
  own_span : (a p : ℕ) → owner_in (page_of (now (Cell.Page p))) ≡ a + 1 → IsOwnSpan now a p
  own_span a p owner = go (page_of (now (Cell.Page p))) refl where
    some : (n : ℕ) → n ≡ a + 1 → n ≡ 0 → ⊥
    some n is none = omega (arith, is, none)

    go : (w : PageWord) → page_of (now (Cell.Page p)) ≡ w → IsOwnSpan now a p
    go (Head h) is = let mine : h.owner ≡ a + 1 = sym (ap owner_in is) ∙ owner in record { h = h; head = is; owner = mine; swept = owned_now p h is (some h.owner mine) }
    go PageWord.Free is = absurd (some 0 (sym (ap owner_in is) ∙ owner) refl)
    go (PageWord.Body b) is = absurd (some 0 (sym (ap owner_in is) ∙ owner) refl)

  -- what a processor holds, whatever it is at
  pub holds_its_own : (a : ℕ) → a < setup.layout.procs → HoldsItsOwn (words setup es) a (processor_at setup es a)
  holds_its_own a lt = subst (λ (w : Words). HoldsItsOwn w a (processor_at setup es a)) told_are go where
    go : HoldsItsOwn now a (processor_at setup es a)
    go p =
        let right = (has.of_list.processors a lt).fine.right in
        let owners = has.good.heap.owners a p in
        (λ held. own_span a p (owners.1 (right.holds p ∙ held)), λ own. sym (right.holds p) ∙ owners.0 (ap owner_in own.head ∙ own.owner))

  -- While the marks are a sweep's.
  module _ (over : s.told ≡ None) where
    mark_is : (i : ℕ) → now (Cell.Mark i) ≡ cond (s.clear i) 0 (marks_at e i)
    mark_is i = ap (λ (t : Option Told). marks_in t (now (Cell.Mark i))) (sym over) ∙ good.marks i

    clear_mark : (i : ℕ) → s.clear i ≡ true → now (Cell.Mark i) ≡ 0
    clear_mark i is = mark_is i ∙ ap (λ (b : Bool). cond b 0 (marks_at e i)) is

    kept_mark : (i : ℕ) → s.clear i ≡ false → now (Cell.Mark i) ≡ marks_at e i
    kept_mark i is = mark_is i ∙ ap (λ (b : Bool). cond b 0 (marks_at e i)) is

    cleared : (i : ℕ) → ((x : InSpan (page_words now) i) → x.h.number ≡ now Cell.Gen) → now (Cell.Mark i) ≡ 0
    cleared i swept = go (s.clear i) refl where
      go : (b : Bool) → s.clear i ≡ b → now (Cell.Mark i) ≡ 0
      go true is = clear_mark i is
      go false is = let left = good.unswept i is in absurd (left.unswept (done_is (now Cell.Gen) left.span.h (s.far left.span.p) (number_at left.span.p left.span.h left.span.head) (swept left.span)))

    -- an object that is reached in a word that is not cut is marked
    in_uncut : (n : Name) (a : ℕ) → (a ≡ s.heap.place n) → Reach s.heap.ever n → s.cut (a / 64) ≡ false → row_bit (mark_words now) a ≡ 1
    in_uncut n a here reach uncut = go (s.clear (a / 64)) refl where
      go : (b : Bool) → s.clear (a / 64) ≡ b → row_bit (mark_words now) a ≡ 1
      go true is = absurd (let cut = good.order (a / 64) is in let no : true ≡ false = sym cut ∙ uncut in cc)
      go false is = same_bit (mark_words now) (marks_at e) a (kept_mark (a / 64) is) ∙ subst (λ (x : ℕ). row_bit (marks_at e) x ≡ 1) (sym here) (has.good.reached n reach (subst (λ (x : ℕ). s.cut (x / 64) ≡ false) here uncut))

    in_unswept : (n : Name) (a : ℕ) → (a ≡ s.heap.place n) → Reach s.heap.ever n → (x : InSpan (page_words now) (a / 64)) → x.h.number + 2 ≡ now Cell.Gen → row_bit (mark_words now) a ≡ 1
    in_unswept n a here reach x number = grind (arith, in_uncut, number_at, unswept_is)

    stand : (x : ℕ) → row_bit (mark_words now) x ≡ 1 → row_bit (alloc_words now) x ≡ 1
    stand x set = go (s.clear (x / 64)) refl where
      go : (b : Bool) → s.clear (x / 64) ≡ b → row_bit (alloc_words now) x ≡ 1
      go true is = absurd (no_bit (mark_words now) x (clear_mark (x / 64) is) set)
      go false is = good.stand x (sym (same_bit (mark_words now) (marks_at e) x (kept_mark (x / 64) is)) ∙ set)

    module _ (limits : IsInLimits setup.layout) (known : Known) (runs : (who : ℕ) (m : Sweeping) → sweeps who ≡ Some m → SweepRuns who s m) where
      -- a sweep has not cut the words that it has not reached
      uncut : (who i : ℕ) (m : Sweeping) → sweeps who ≡ Some m → IsUncut m i → s.cut i ≡ false
      uncut who i m is u =
          let x = sweeps_so who (sweep_over s s.heap.words) m m.stage u.begun (runs who m is).fine.is_at in
          let from = u.from in let below = u.below in
          let there : i ≡ 16 * m.page + (i - 16 * m.page) = omega (arith, from) in
          let within : i - 16 * m.page < bit_words m.head = omega (arith, from, below) in
          let behind : reached m.head m.stage ≤ i - 16 * m.page = omega (arith, from) in
          ap s.cut there ∙ (x.are_cut (i - 16 * m.page) within ∙ grind (arith, nat_tests, behind))

      left_now : MarksAreLeft now s.heap.ever sweeps
      left_now = record {
        cleared = cleared;
        unswept = λ n a reach at x number. in_unswept n a (once setup limits known es has n a reach at) reach x number;
        uncut = λ n a who m reach at is in_it. in_uncut n a (once setup limits known es has n a reach at) reach (uncut who (a / 64) m is in_it);
        stand = stand;
      }

      pub marks_left : MarksAreLeft (words setup es) (ever setup es) sweeps
      marks_left = grind (arith, left_now, told_are)

  -- While a cycle is opened no mark is set, each span is swept, and nobody sweeps.
  module _ (far : (p : ℕ) → s.far p ≡ Done) (none : (i : ℕ) → now (Cell.Mark i) ≡ 0) (nobody : (who : ℕ) → sweeps who ≡ None) where
    none_left : MarksAreLeft now s.heap.ever sweeps
    none_left = record {
      cleared = λ i swept. none i;
      unswept = λ n a reach at x number. let swept = number_is (now Cell.Gen) x.h (s.far x.p) (number_at x.p x.h x.head) (far x.p) in absurd (omega (arith, swept, number));
      uncut = λ n a who m reach at is in_it. absurd (let no : None ≡ Some m = sym (nobody who) ∙ is in cc);
      stand = λ x set. absurd (no_bit (mark_words now) x (none (x / 64)) set);
    }

    pub no_marks_left : MarksAreLeft (words setup es) (ever setup es) sweeps
    no_marks_left = grind (arith, none_left, told_are)

-- At a seat that is none nobody steps, so nobody sweeps.
module _ (setup : Setup) (known : Known) where
  none_first : (who : ℕ) → sweep_of (actors_after (arena setup) setup.pacing setup.may [] who) ≡ None
  none_first who = grind arith

  none_beyond : (es : List (Entry Op)) → Legal (those setup) es → (who : ℕ) → seats_of setup.layout ≤ who → sweep_of (actors_after (arena setup) setup.pacing setup.may es who) ≡ None
  none_beyond [] legal who from = none_first who
  none_beyond (e ∷ es) legal who from = ap sweep_of (other setup e es who (apart (e.actor == who) refl)) ∙ none_beyond es legal.0 who from where
    apart : (b : Bool) → (e.actor == who) ≡ b → (e.actor == who) ≡ false
    apart false x = x
    apart true x = absurd (let same : e.actor ≡ who = grind (arith, nat_tests) in let lt : e.actor < seats_of setup.layout = legal.1.actor in omega (arith, same, lt, from))

-- By the coordinator's stage.
module _ (setup : Setup) (limits : IsInLimits setup.layout) (known : Known) (es : List (Entry Op)) (c : Coordinating) where
  abbrev at : List (Entry Op) → ℕ → Actor
  at xs who = actors_after (arena setup) setup.pacing setup.may xs who

  -- each span is swept while a cycle is opened and marked
  far_done : (has : HasState setup es) → IsUnderWay has.state → (p : ℕ) → has.state.far p ≡ Done
  far_done has under p = has.good.told under.0 under.1 p

  swept_at : (p : CoordStage) → (leading.Marks p → IsMarking setup es) → HoldsAt setup es c p → IsBeginning p ⊎ leading.Marks p → EachSpanIsSwept (words setup es)
  swept_at (Open o) marking h (inl b) = all_swept setup es h.0.has (far_done h.0.has h.0.under_way)
  swept_at _ marking h (inl b) = absurd b
  swept_at _ marking h (inr on) = let k = (marking on).known in all_swept setup es k.has (far_done k.has k.under_way)

  abbrev Left : Type 0
  Left = MarksAreLeft (words setup es) (ever setup es) (λ who. sweep_of (at es who))

  module _ (legal : Legal (those setup) es) where
    runs_there : (has : HasState setup es) (who : ℕ) (m : Sweeping) → sweep_of (at es who) ≡ Some m → SweepRuns who has.state m
    runs_there has who m is = go (ltb who (seats_of setup.layout)) refl where
      go : (b : Bool) → ltb who (seats_of setup.layout) ≡ b → SweepRuns who has.state m
      go true x = (subst (IsInSweep who has.state) is (has.sweeps who (grind (arith, nat_tests)))).0
      go false x = absurd (let no : None ≡ Some m = sym (none_beyond setup known es legal who (grind (arith, nat_tests))) ∙ is in cc)

    none_runs : (has : HasState setup es) → IsUnderWay has.state → (who : ℕ) (x : Option Sweeping) → sweep_of (at es who) ≡ x → x ≡ None
    none_runs has under who None is = refl
    none_runs has under who (Some m) is = absurd (let no : None ≡ Some under.0 = sym (runs_there has who m is).quiet ∙ under.1 in cc)

    off_left : (has : HasState setup es) → has.state.told ≡ None → Left
    off_left has over = marks_left setup es has over limits known (runs_there has)

    told_left : (p : TellStage) → IsTelling setup es c p → Left
    told_left TellStage.Ended h = absurd h
    told_left TellStage.StoreTrigger h = off_left h.quiet.has h.quiet.over
    told_left _ h = off_left h.quiet.has h.quiet.over

    closing_left : (y : closes_by.Closing) (p : CloseStage) → y.stage ≡ p → (leading.Marks (Close y) → ⊥) → IsClosing setup es c p → Left
    closing_left y CloseStage.StorePhase at off h = off_left h.has h.over
    closing_left y CloseStage.Ended at off h = absurd h
    closing_left y _ at off h = absurd (off (ap closes_by.is_marking at))

    opening_left : (has : HasState setup es) → IsUnderWay has.state → ((i : ℕ) → has.state.heap.words (Cell.Mark i) ≡ 0) → Left
    opening_left has under none = no_marks_left setup es has (far_done has under) none (λ who. none_runs has under who (sweep_of (at es who)) refl)

    left_at : (p : CoordStage) → ClosingIsBusy p → (leading.Marks p → ⊥) → HoldsAt setup es c p → Left
    left_at (Open o) going off h = opening_left h.0.has h.0.under_way h.0.marks
    left_at (Watch w) going off h = absurd (off tt)
    left_at (StopAgain st) going off h = absurd (off tt)
    left_at (Check w) going off h = absurd (off tt)
    left_at MarkOn going off h = absurd (off tt)
    left_at (Close y) going off h = closing_left y y.stage refl off h
    left_at (Sweep w) going off s = off_left s.has s.over
    left_at (Count x) going off h = off_left h.quiet.has h.quiet.over
    left_at (Tell t) going off h = told_left t.stage h
    left_at CoordStage.Done going off h = off_left h.quiet.has h.quiet.over
    left_at _ going off q = off_left q.has q.over

  module _ (legal : Legal (those setup) es) (led : IsLed setup es c) (marking : leading.Marks c.stage → IsMarking setup es) (h : HoldsAt setup es c c.stage) where
    going : ClosingIsBusy c.stage
    going = goes_then setup es c led

    has : HasState setup es
    has = has_at setup es c c.stage going marking h

    one_lead : (d : Coordinating) → IsLed setup es d → c ≡ d
    one_lead d too = let both : Actor.Leads c ≡ Actor.Leads d = sym led ∙ too in cc

    pub sweeps_stand : SweepsStand setup es
    sweeps_stand = record {
      numbers = spans_numbered setup es has;
      owned = owned_swept setup es has;
      cached = cached_swept setup es has;
      held = holds_its_own setup es has;
      marked = λ d too. subst (λ (x : Coordinating). IsBeginning x.stage ⊎ leading.Marks x.stage → EachSpanIsSwept (words setup es)) (one_lead d too) (swept_at c.stage marking h);
      marks = λ d too. subst (λ (x : Coordinating). (leading.Marks x.stage → ⊥) → Left) (one_lead d too) (λ off. left_at legal c.stage going off h);
    }
