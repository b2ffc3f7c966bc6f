-- The store of the next sweep generation ends a cycle: what holds then is what the sweep begins with.
use Rattle.std.proofs.Common.{◌≡◌, ◌⊎◌, inl, inr, ℕ, ◌+◌, ◌*◌, ◌^◌, ◌<◌, ◌≤◌, Bool, true, false, ltb, refl, sym, ap, subst, ◌∙◌, arith, List, ◌∷◌, eqb-true}
use Rattle.gh_holds.proofs.Vocabulary.{acks_of, actors_after, ActorSound, ahead_at, alloc_words, Arena, arena, Cell, Checked, Close, close_part, CloseStage, Coordinating, CoordStage, cycle_ended, effect, END, EndedSo, Entry, HasEnded, HasState, Heap, IsAsItEnded, IsBeginning, IsEnding, IsInCycle, IsInSweep, IsLed, IsOver, IsSweeping, IsToBegin, Layout, ListsKnown, mark_words, MarksNothing, MarksToTheEnd, Name, nat_tests, next_words, NobodyMarks, NotAcks, Op, Part, part_of, Processor, processor_at, put, Reach, row_bit, RunPhase, seats_of, SeatSweepsNothing, Setup, State, state_stays, StateGood, Stopped, Store, sweep_of, uncounted, Walks, whole, Words, words}
use Rattle.gh_coord.specs.Closing as close
use Rattle.gh_coord.specs.Handshake as leading
use Rattle.gh_coord.specs.Listing as coord
use Rattle.gh_coord.specs.SweepingAll as over_all
use Rattle.gh_holds.proofs.AllActors.Aside.{IsOfSpans, TellsNothing}
use Rattle.gh_holds.proofs.AllActors.LeadingEnds.{buffers, facts, none_placing, post, reached_are_marked, still_at}
use Rattle.gh_holds.proofs.AllActors.LeadingAside.{last_stays, NotSweeps, told_on}
use Rattle.gh_holds.proofs.AllActors.LeadingSeat.{asked_at, ByLead, from, goes_at as goes_by, is_still, IsStill, led_then, owes_nothing, stopped_sweeps_none}
use Rattle.gh_holds.proofs.AllActors.LeadingSwept.{apart, behind_of, heap_on, nobody_on, sweeping_of}
use Rattle.gh_holds.proofs.AllActors.SinceEnd.{in_cycle_on, LastStays}

-- a coordinator that ends a cycle does not begin one
no_beginning : (p : CoordStage) (x : close.Closing) → p ≡ Close x → IsBeginning p → ⊥
no_beginning p x is b = subst IsBeginning is b

module _ (setup : Setup) (lists : ListsKnown setup) where
  abbrev z : Arena
  z = arena setup

  abbrev Ends : List (Entry Op) → Coordinating → Type 0
  Ends es c = MarksToTheEnd z setup.pacing setup.may es c

  module _ (e : Entry Op) (es : List (Entry Op)) (by : ByLead setup e es) (x : close.Closing) (is : by.lead.stage ≡ Close x) (at : x.stage ≡ CloseStage.StoreGen) (on : leading.Marks by.lead.stage) (mark : Ends es by.lead) where
    abbrev s : State
    s = mark.marking.known.has.state

    abbrev h : Heap
    h = mark.marking.known.has.state.heap

    words_here : h.words ≡ words setup es
    words_here = mark.marking.known.has.of_list.words_are

    -- The numbers.

    checked : part_of by.lead.stage ≡ Checked
    checked = ap part_of is ∙ ap close_part at

    abbrev swept : ℕ
    swept = words setup es Cell.Swept

    gen_is : h.words Cell.Gen ≡ 2 + 2 * (swept + 0)
    gen_is = ap (λ (w : Words). w Cell.Gen) words_here ∙ ((lists.counts es by.lead by.legal.0 by.led).gen ∙ ap (λ (p : Part). 2 + 2 * (swept + (ahead_at p).ended)) checked)

    generation_is : by.lead.generation ≡ 2 + 2 * (swept + 1)
    generation_is = (lists.counts es by.lead by.legal.0 by.led).generation ∙ ap (λ (p : Part). 2 + 2 * (swept + (ahead_at p).generation)) checked

    begun_is : words setup es Cell.Begun ≡ by.lead.begun
    begun_is =
        let k = lists.counts es by.lead by.legal.0 by.led in
        let a = k.begun ∙ ap (λ (p : Part). swept + (ahead_at p).begun) checked in
        let b = k.number ∙ ap (λ (p : Part). swept + (ahead_at p).numbered) checked in
        omega (arith, a, b)

    room : h.words Cell.Gen + 2 < 2 ^ 34
    room =
        let few = lists.few es by.legal.0 in
        let opened = (lists.counts es by.lead by.legal.0 by.led).opened ∙ ap (λ (p : Part). swept + (ahead_at p).opened) checked in
        let gen = gen_is in
        omega (arith, few, opened, gen)

    sound : leading.Sound by.lead
    sound = subst (ActorSound setup.layout) by.led ((lists.keeps es by.legal.0).shakes.all_sound (acks_of setup.layout) (omega arith))

    stored : x.generation ≡ by.lead.generation
    stored = ap (λ (v : close.Closing). v.generation) (subst (leading.SoundAt by.lead) is sound.1)

    asked : e.ask ≡ Store Cell.Gen x.generation
    asked = asked_at setup lists e es by (Close x) is ∙ ap (close.asks_at x) at

    next : h.words Cell.Gen + 2 ≡ x.generation
    next = let a = gen_is in let b = generation_is in let d = stored in omega (arith, a, b, d)

    words_so : next_words h.words ≡ effect h.words e.ask
    words_so = ap (put h.words Cell.Gen) next ∙ sym (ap (effect h.words) asked)

    only : IsOfSpans e.ask
    only = subst IsOfSpans (sym asked) refl

    -- Marking is over: nobody holds anything, and each processor has counted what it placed.

    stopped : leading.post_at by.lead.stage ≡ Stopped RunPhase.Mark
    stopped = post setup lists es by.legal.0 by.lead by.led x is on mark

    still : IsStill h
    still = is_still setup lists es by.legal.0 by.lead by.led RunPhase.Mark stopped h mark.marking.known.has.of_list

    pends : (a : ℕ) → s.pend a ≡ 0
    pends a = go (ltb a setup.layout.procs) refl where
      go : (b : Bool) → ltb a setup.layout.procs ≡ b → s.pend a ≡ 0
      go true y = let lt : a < setup.layout.procs = grind (arith, nat_tests) in mark.marking.known.has.placing a lt ∙ owes_nothing setup lists es by.legal.0 by.lead by.led RunPhase.Mark stopped a lt
      go false y = mark.marking.known.has.others_place a (grind (arith, nat_tests))

    -- what a script reaches is marked
    reached : (n : Name) → Reach h.ever n → row_bit (mark_words h.words) (h.place n) ≡ 1
    reached n r = subst (λ (w : Words). row_bit (mark_words w) (h.place n) ≡ 1) mark.marking.known.beside.words (reached_are_marked setup lists es by.legal.0 by.lead by.led x is on mark n r)

    is_over : IsOver s
    is_over = record {
      counts = mark.marking.known.under_way.0;
      under_way = mark.marking.known.under_way.1;
      none_held = still.none_held;
      none_laid = still.none_laid;
      none_freed = still.none_freed;
      owes_none = pends;
      stand = lists.known.stand mark.marking.cycle h mark.marking.shared mark.marking.good mark.marking.known.beside.words (none_placing setup lists es by.legal.0 by.lead by.led x is on mark);
      marks_fit = mark.marking.known.marks_fit;
      reached = reached;
      tally = mark.marking.known.counts.0;
      live = mark.marking.known.counts.1;
      room = room;
    }

    -- So each span is unswept, and nobody sweeps.

    abbrev then : State
    then = cycle_ended s

    good_then : StateGood z then
    good_then = lists.known.cycles_end z s mark.marking.known.has.good is_over

    pages : s.end.layout.pages ≡ setup.layout.pages
    pages = ap (λ (y : Layout). y.pages) mark.marking.known.has.good.layout

    walks : Walks then (over_all.opening by.lead.generation)
    walks = record {
      generation_is = sym stored ∙ sym next;
      passed = λ p lt. absurd (omega (arith, lt));
      stage_is = let some = lists.limits.pages_fit.0 in omega (arith, some, pages);
    }

    rests : (b : ℕ) → SeatSweepsNothing b then
    rests b = grind arith

    -- where its step leads the world is stopped still
    closes_to : (p : CloseStage) → x.stage ≡ p → close.goes_at x p e.found ≡ close.goes x e.found
    closes_to p y = ap (λ (q : CloseStage). close.goes_at x q e.found) (sym y)

    abbrev behind_it : Coordinating
    behind_it = coord.at_stage (coord.counted by.lead) (Close (close.at_stage x CloseStage.StorePhase))

    leads_to : coord.goes setup.layout by.lead e.found ≡ behind_it
    leads_to = goes_by setup lists e es by (Close x) is ∙ ap (λ (y : close.Closing). coord.after_close (coord.at_stage (coord.counted by.lead) (Close y)) (close.given y)) (sym (closes_to CloseStage.StoreGen at))

    led_behind : IsLed setup (e ∷ es) behind_it
    led_behind = subst (IsLed setup (e ∷ es)) leads_to (led_then setup lists e es by)

    sweeps_none : (b : ℕ) → b < seats_of setup.layout → IsInSweep b then (sweep_of (actors_after z setup.pacing setup.may (e ∷ es) b))
    sweeps_none b lt = subst (IsInSweep b then) (sym (stopped_sweeps_none setup lists (e ∷ es) by.legal behind_it led_behind RunPhase.Mark refl b lt)) (rests b)

    -- and the objects of since are those that are marked
    as_it_ended : IsAsItEnded then
    as_it_ended = record { none_freed = still.none_freed; slots = λ i. refl; since = λ i set. eqb-true (row_bit (mark_words h.words) i) 1 set }

    in_cycle : IsInCycle setup es by.lead.begun
    in_cycle = go mark.marking.known.cycle where
      same : mark.marking.cycle.number ≡ by.lead.begun
      same = mark.marking.is.number_is

      go : IsToBegin setup es mark.marking.cycle.number ⊎ IsInCycle setup es mark.marking.cycle.number → IsInCycle setup es by.lead.begun
      go (inr k) = subst (IsInCycle setup es) same k
      go (inl b) = absurd (no_beginning by.lead.stage x is (let one : b.lead ≡ by.lead = (let both = sym b.led ∙ by.led in cc) in subst (λ (d : Coordinating). IsBeginning d.stage) one b.stage))

    seat_from : setup.layout.procs ≤ e.actor
    seat_from = from setup lists e es by

    last : LastStays setup e es s then
    last d led_d is_last = let x = last_stays setup lists e es by (subst NotAcks (sym is) tt) s s (record { end = refl; since = refl; slot = refl; ever = refl; freeing = refl }) d led_d is_last in (x.0, x.1, λ y. as_it_ended)

    ended : EndedSo setup (e ∷ es) by.lead.begun then
    ended = record {
      ended = e ∷ es;
      start = whole (e ∷ es);
      ends = record { lead = by.lead; led = by.led; by = by.seat; stage = subst IsEnding (sym is) at; cycle = refl };
      alloc = ap alloc_words (words_so ∙ ap (λ (w : Words). effect w e.ask) words_here);
      marks = ap mark_words (words_so ∙ ap (λ (w : Words). effect w e.ask) words_here);
      stood = λ n i made p. p;
      since = λ i set y. inl (eqb-true (row_bit (mark_words h.words) i) 1 set);
      made = λ n y. y;
      last = λ d led_d y. (refl, as_it_ended);
    }

    behind : HasEnded setup (e ∷ es) by.lead.begun then
    behind = record { cycle = in_cycle_on setup e es by.lead.begun s then last in_cycle; ended = ended }

    -- each stack was scanned in this cycle or before, if at all
    scanned : (g : ℕ) → (h.words (Cell.Scanned g) < by.lead.begun + 1) ⊎ (h.words (Cell.Scanned g) ≡ END)
    scanned g = go (lists.numbers es by.legal.0 g) where
      here : h.words (Cell.Scanned g) ≡ words setup es (Cell.Scanned g)
      here = ap (λ (w : Words). w (Cell.Scanned g)) words_here

      go : (words setup es (Cell.Scanned g) ≡ END) ⊎ (words setup es (Cell.Scanned g) ≤ words setup es Cell.Begun) → (h.words (Cell.Scanned g) < by.lead.begun + 1) ⊎ (h.words (Cell.Scanned g) ≡ END)
      go (inl i) = inr (here ∙ i)
      go (inr i) = let b = begun_is in inl (omega (arith, here, i, b))

    calm_now : (a : ℕ) → a < setup.layout.procs → MarksNothing (processor_at setup es a)
    calm_now a lt = lists.known.calm.behind mark.marking.cycle a mark.marking.shared (processor_at setup es a) _ (still_at setup lists es by.legal.0 by.lead by.led x is on mark a lt) (facts setup lists es by.legal.0 by.lead by.led x is on mark a lt)

    nobody : NobodyMarks setup es (by.lead.begun + 1) h.words
    nobody = record { buffers = λ b. buffers setup lists es by.legal.0 by.lead by.led x is on mark b; stacks = scanned; processors = calm_now }

    abbrev has_then : HasState setup (e ∷ es)
    has_then = record {
      state = then;
      of_list = heap_on setup lists e es by stopped h mark.marking.known.has.of_list (next_words h.words) words_so only;
      good = good_then;
      placing = λ a lt. sym (owes_nothing setup lists es by.legal.0 by.lead by.led RunPhase.Mark stopped a lt) ∙ ap (λ (m : Processor). uncounted m.task) (sym (state_stays setup e es a (apart setup lists e es by.legal seat_from a lt)));
      others_place = λ a le. refl;
      sweeps = sweeps_none;
    }

    pub sweeping : (d : Coordinating) → d.begun ≡ by.lead.begun → IsSweeping setup (e ∷ es) d (over_all.opening by.lead.generation)
    sweeping d same = record {
      has = has_then;
      over = refl;
      walks = walks;
      behind = subst (λ (k : ℕ). HasEnded setup (e ∷ es) k then) (sym same) behind;
      nobody = nobody_on setup lists e es by stopped h mark.marking.known.has.of_list (next_words h.words) words_so only (by.lead.begun + 1) (d.begun + 1) (ap (λ (k : ℕ). k + 1) same) nobody;
    }

  -- With the store of the phase the world runs, and the walk begins.
  module _ (e : Entry Op) (es : List (Entry Op)) (by : ByLead setup e es) (x : close.Closing) (is : by.lead.stage ≡ Close x) (at : x.stage ≡ CloseStage.StorePhase) (k : IsSweeping setup es by.lead (over_all.opening by.lead.generation)) where
    at_close : by.lead.stage ≡ Close (close.at_stage x CloseStage.StorePhase)
    at_close = is ∙ ap (λ (p : CloseStage). Close (close.at_stage x p)) at

    tells : TellsNothing e.ask
    tells = subst TellsNothing (sym (asked_at setup lists e es by (Close (close.at_stage x CloseStage.StorePhase)) at_close)) refl

    pub runs_on : (d : Coordinating) → d.begun ≡ by.lead.begun → IsSweeping setup (e ∷ es) d (over_all.opening by.lead.generation)
    runs_on d same = sweeping_of setup lists (e ∷ es) d (over_all.opening by.lead.generation) 0
        (told_on setup lists e es by (subst NotSweeps (sym is) tt) tells (subst NotAcks (sym is) tt) 0 (behind_of setup lists es by.lead (over_all.opening by.lead.generation) k) d same)
        (record { generation_is = k.walks.generation_is; passed = k.walks.passed; stage_is = k.walks.stage_is })
