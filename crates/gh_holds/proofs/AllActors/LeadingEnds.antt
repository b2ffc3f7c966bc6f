-- Where a cycle's marking ends: nobody has anything in hand, the marked objects are those that a script reaches, and with the store of the next sweep generation they are swept.
use Rattle.std.proofs.Common.{◌≡◌, ◌≢◌, ◌⊎◌, inl, inr, ℕ, zero, suc, ◌-◌, ◌<◌, ◌≤◌, refl, sym, ap, subst, ◌∙◌, arith, List, Some, None, true}
use Rattle.std.proofs.lemmas.Bool.{cases_lt}
use Rattle.gh_holds.proofs.Vocabulary.{acks_of, Actor, actors_after, alloc_words, Arena, arena, began, began_words, BeginsCycle, birth_words, Cell, Close, CloseStage, Coordinating, Cycle, END, EndsClean, EndsMarked, Entry, Ever, ever, Good, Hands, HasGoneOn, HasMark, Heap, IsBeginning, IsBeside, IsBounded, IsChecked, IsGrey, IsHeapOf, IsInCycle, IsKnown, IsLed, IsMade, IsMarkedObject, IsParked, IsPlacedAt, IsSeated, IsToBegin, Legal, ListsKnown, mark_words, MarkFacts, MarksToTheEnd, Name, not_beginning, nothing, Op, Placed, placed_there, Placing, processor_at, Reach, Row, row_bit, RunPhase, runs_are, Scanned, seated, Setup, stage_of, Stopped, those, Untouched, view, WaitsWithNone, Words, words}
use Rattle.gh_base.specs.Shapes.{ShapesFit}
use Rattle.gh_coord.specs.Closing as close
use Rattle.gh_coord.specs.Handshake as leading
use Rattle.gh_worker.specs.Listing as worker
use Rattle.gh_worker.specs.MarkFacts as worker_marks
use Rattle.gh_marked.proofs.Vocabulary.{holder_in}
use Rattle.gh_holds.proofs.AllActors.LeadingSeat.{parked}
use Rattle.gh_holds.proofs.AllActors.Stood.{Stays}
use Rattle.gh_holds.proofs.AllActors.Tied.{is_tied}

-- the world is stopped until the phase behind the next sweep generation is stored
closing_post : (p : CloseStage) → close.is_marking p ≡ true → leading.close_post p ≡ Stopped RunPhase.Mark
closing_post p on = grind arith

module _ (setup : Setup) (lists : ListsKnown setup) where
  abbrev z : Arena
  z = arena setup

  abbrev at : List (Entry Op) → ℕ → Actor
  at es a = actors_after z setup.pacing setup.may es a

  abbrev Ends : List (Entry Op) → Coordinating → Type 0
  Ends es c = MarksToTheEnd z setup.pacing setup.may es c

  -- Where the coordinator has checked that nothing is left to be marked.
  module _ (es : List (Entry Op)) (legal : Legal (those setup) es) (c : Coordinating) (led : IsLed setup es c) (x : close.Closing) (is : c.stage ≡ Close x) (on : leading.Marks c.stage) (mark : Ends es c) where
    abbrev y : Cycle
    y = mark.marking.cycle

    k : IsKnown setup mark.marking.cycle mark.marking.shared es
    k = mark.marking.known

    abbrev h : Heap
    h = mark.marking.known.has.state.heap

    of : IsHeapOf setup es mark.marking.known.has.state.heap
    of = mark.marking.known.has.of_list

    pub clean : EndsClean mark.marking.cycle mark.marking.shared
    clean = mark.ends (subst IsChecked (sym is) tt)

    pub post : leading.post_at c.stage ≡ Stopped RunPhase.Mark
    post = grind (arith, closing_post)

    pub facts : (a : ℕ) → a < setup.layout.procs → MarkFacts mark.marking.cycle a mark.marking.shared (processor_at setup es a)
    facts a lt = mark.marking.processors a (processor_at setup es a) lt (runs_are setup es a lt)

    pub still_at : (a : ℕ) → a < setup.layout.procs → IsParked (leading.lead_of c).stops (stage_of (processor_at setup es a))
    still_at a lt = parked setup lists es legal c led RunPhase.Mark post a lt

    -- nobody has anything in hand
    seats : (a : ℕ) → Hands a mark.marking.shared nothing
    seats a = go (at es a) refl where
      seat_of : (m : Actor) → at es a ≡ m → IsSeated setup.layout a m
      seat_of m i = subst (IsSeated setup.layout a) i (seated setup es a)

      worker_has : (w : worker.Working) → WaitsWithNone (leading.lead_of c).stops w → worker_marks.Facts mark.marking.cycle a mark.marking.shared w → Hands a mark.marking.shared nothing
      worker_has w waits f = (subst (worker_marks.StageFacts mark.marking.cycle a mark.marking.shared w.held) waits.is_at f.stage_is).0

      go : (m : Actor) → at es a ≡ m → Hands a mark.marking.shared nothing
      go (Actor.Runs m) i =
          let lt : a < setup.layout.procs = seat_of (Actor.Runs m) i in
          (lists.known.marks.waits mark.marking.cycle a mark.marking.shared (processor_at setup es a) _ (still_at a lt) (facts a lt)).nothing_in_hand
      go (Actor.Marks w) i =
          let lt : a < acks_of setup.layout = (seat_of (Actor.Marks w) i).1 in
          worker_has w ((lists.keeps es legal).workers_wait c RunPhase.Mark a w led post lt i) (mark.marking.workers a w lt i)
      go (Actor.Leads d) i = mark.marking.coordinator a (seat_of (Actor.Leads d) i)

    pub none_placing : (o a : ℕ) → mark.marking.shared.colour o ≢ Placing a
    none_placing o a i = absurd (let none : None ≡ Some o = ((seats a).has.is_reserved o).1 i in cc)

    -- no buffer has an entry
    buffer_words_are : (b : ℕ) → mark.marking.shared.words (Cell.Buffer b) ≡ h.words (Cell.Buffer b)
    buffer_words_are b = ap (λ (w : Words). w (Cell.Buffer b)) mark.marking.known.beside.words

    free_buffer : (b : ℕ) → holder_in (mark.marking.shared.words (Cell.Buffer b)) ≡ 0
    free_buffer b = go (holder_in (mark.marking.shared.words (Cell.Buffer b))) refl where
      go : (n : ℕ) → holder_in (mark.marking.shared.words (Cell.Buffer b)) ≡ n → holder_in (mark.marking.shared.words (Cell.Buffer b)) ≡ 0
      go zero i = i
      go (suc n) i = absurd (((seats n).holds.only b).0 (i ∙ omega arith))

    not_filled : (b : ℕ) → mark.marking.shared.filled b ≡ 0
    not_filled b = go (mark.marking.shared.filled b) refl where
      go : (n : ℕ) → mark.marking.shared.filled b ≡ n → mark.marking.shared.filled b ≡ 0
      go zero i = i
      go (suc n) i =
          let below : 0 < mark.marking.shared.filled b = omega (arith, i) in
          let some = mark.marking.good.entries.some b 0 below in
          let grey = mark.marking.good.entries.entered b 0 (mark.marking.shared.words (Cell.Entry b 0) - 1) below (omega (arith, some)) in
          absurd (clean.done.no_grey (mark.marking.shared.words (Cell.Entry b 0) - 1) (subst IsGrey (sym grey) tt))

    pub buffers : (b : ℕ) → h.words (Cell.Buffer b) ≡ 0
    buffers b = grind (arith, buffer_words_are, free_buffer, not_filled)

    -- The cursor is past the globals, and each stack is scanned or has ended.

    shared_words : mark.marking.shared.words ≡ words setup es
    shared_words = mark.marking.is.words_are

    cursor_at : (n : ℕ) → setup.layout.globals ≡ n → n ≤ words setup es Cell.Gcur
    cursor_at zero i = omega arith
    cursor_at (suc n) i = go (cases_lt n (mark.marking.shared.words Cell.Gcur)) where
      same : mark.marking.shared.words Cell.Gcur ≡ words setup es Cell.Gcur
      same = ap (λ (w : Words). w Cell.Gcur) shared_words

      last : n < mark.marking.cycle.arena.layout.globals
      last = let globals : mark.marking.cycle.arena.layout.globals ≡ setup.layout.globals = ap (λ (r : Arena). r.layout.globals) mark.marking.known.arena_is in omega (arith, globals, i)

      go : (n < mark.marking.shared.words Cell.Gcur) ⊎ (mark.marking.shared.words Cell.Gcur ≤ n) → suc n ≤ words setup es Cell.Gcur
      go (inl past) = omega (arith, past, same)
      go (inr at) = absurd (let untouched = mark.marking.good.cursor.ahead n last at in let scanned = clean.done.globals n last in let no : Untouched ≡ Scanned = sym untouched ∙ scanned in cc)

    stack_at : (g : ℕ) → g < setup.layout.goroutines → (words setup es (Cell.Scanned g) ≡ c.begun) ⊎ (words setup es (Cell.Scanned g) ≡ END)
    stack_at g lt =
        let there = clean.done.stacks g (subst (λ (r : Arena). g < r.layout.goroutines) (sym mark.marking.known.arena_is) lt) in
        subst (λ (w : Words). (w (Cell.Scanned g) ≡ c.begun) ⊎ (w (Cell.Scanned g) ≡ END)) shared_words (subst (λ (k : ℕ). (mark.marking.shared.words (Cell.Scanned g) ≡ k) ⊎ (mark.marking.shared.words (Cell.Scanned g) ≡ END)) mark.marking.is.number_is there)

    -- The objects that are marked.

    arena_is : mark.marking.cycle.arena ≡ z
    arena_is = mark.marking.known.arena_is

    good_there : Good mark.marking.cycle.arena (view h)
    good_there = subst (λ (r : Arena). Good r (view h)) (sym arena_is) mark.marking.known.has.good.heap

    bounded_there : IsBounded mark.marking.cycle.arena h.ever
    bounded_there = subst (λ (r : Arena). IsBounded r h.ever) (sym arena_is) of.bounded

    beside_there : IsBeside mark.marking.cycle.arena h mark.marking.shared
    beside_there = subst (λ (r : Arena). IsBeside r h mark.marking.shared) (sym arena_is) mark.marking.known.beside

    pub reached_are_marked : (n : Name) → Reach h.ever n → HasMark (mark_words mark.marking.shared.words) (h.place n)
    reached_are_marked = lists.known.reached mark.marking.cycle h mark.marking.shared good_there (subst (λ (r : Arena). ShapesFit r.shapes) (sym arena_is) lists.good.fit) bounded_there beside_there clean.reached

    marks_are : mark_words mark.marking.shared.words ≡ mark_words (words setup es)
    marks_are = ap mark_words mark.marking.is.words_are

    -- where the cycle began, and what has become of the heap since
    record Began : Type 0 where
      cycle_is : IsInCycle setup es c.begun
      since : HasGoneOn (ever setup cycle_is.begun) h mark.marking.shared
      stood : Stays (words setup cycle_is.begun) (words setup es)

    began_at : Began
    began_at = go mark.marking.known.cycle mark.marking.known.gone_on mark.marking.known.stood where
      go : (y : IsToBegin setup es mark.marking.cycle.number ⊎ IsInCycle setup es mark.marking.cycle.number) → HasGoneOn (began setup es mark.marking.cycle.number y) h mark.marking.shared → Stays (began_words setup es mark.marking.cycle.number y) (words setup es) → Began
      go (inl b) g so = let same : b.lead ≡ c = (let both = sym b.led ∙ led in cc) in absurd (not_beginning c.stage on (subst (λ (d : Coordinating). IsBeginning d.stage) same b.stage))
      go (inr i) g so = record { cycle_is = record { begun = i.begun; start = i.start; begins = subst (λ (k : ℕ). BeginsCycle setup k i.begun) mark.marking.is.number_is i.begins; last = i.last }; since = g; stood = so }

    module _ (n : Name) where
      -- what stands there and is marked was reached where the cycle began, or made since
      was_reached : IsMade (ever setup began_at.cycle_is.begun).made n → IsMarkedObject setup (words setup es) n → Reach (ever setup began_at.cycle_is.begun) n
      was_reached made (a, at_a, set) =
          let there : Placed (alloc_words h.words) (birth_words h.words) (λ m. a) n = subst (λ (w : Words). Placed (alloc_words w) (birth_words w) (λ m. a) n) (sym of.words_are) at_a in
          let here = placed_there z (view h) mark.marking.known.has.good.heap n a (began_at.since.made n made) there.set there.says in
          lists.known.marked mark.marking.cycle h mark.marking.shared (ever setup began_at.cycle_is.begun) mark.marking.good mark.marking.known.beside.words none_placing began_at.since n here.1
          (subst (λ (o : ℕ). HasMark (mark_words mark.marking.shared.words) o) (sym here.0) (subst (λ (w : Row). row_bit w a ≡ 1) (sym marks_are) set)) made

      is_marked : Reach (ever setup es) n → IsMarkedObject setup (words setup es) n
      is_marked r =
          let there : Reach h.ever n = subst (λ (v : Ever). Reach v n) (sym of.ever_is) r in
          let p = mark.marking.known.has.good.heap.reached n there in
          (h.place n, subst (λ (w : Words). Placed (alloc_words w) (birth_words w) (λ m. h.place n) n) of.words_are (record { set = p.set; says = p.says }), subst (λ (w : Row). row_bit w (h.place n) ≡ 1) marks_are (reached_are_marked n there))

      -- where it is placed it is marked, if a script reaches it
      not_unmarked : (a : ℕ) → IsMade (ever setup es).made n → IsPlacedAt (words setup es) n a → row_bit (mark_words (words setup es)) a ≡ 0 → Reach (ever setup es) n → ⊥
      not_unmarked a made at_a none r =
          let there : Placed (alloc_words h.words) (birth_words h.words) (λ m. a) n = subst (λ (w : Words). Placed (alloc_words w) (birth_words w) (λ m. a) n) (sym of.words_are) at_a in
          let here = placed_there z (view h) mark.marking.known.has.good.heap n a (subst (λ (v : Ever). IsMade v.made n) (sym of.ever_is) made) there.set there.says in
          let set = subst (λ (o : ℕ). HasMark (mark_words mark.marking.shared.words) o) here.0 (reached_are_marked n (subst (λ (v : Ever). Reach v n) (sym of.ever_is) r)) in
          let set_there = subst (λ (w : Row). row_bit w a ≡ 1) marks_are set in
          omega (arith, none, set_there)

    pub ends_marked : EndsMarked setup es c
    ends_marked = record {
      cycle = mark.marking.cycle;
      shared = mark.marking.shared;
      is = mark.marking.is;
      tied = is_tied setup lists.known es c mark.marking;
      clean = clean;
      cursor = cursor_at setup.layout.globals refl;
      stacks = stack_at;
      buffers = λ b. subst (λ (w : Words). w (Cell.Buffer b) ≡ 0) of.words_are (buffers b);
      hands = seats;
      reached = is_marked;
      unmarked = λ n a made at_a none r. not_unmarked n a made at_a none r;
      begun = began_at.cycle_is.begun;
      start = began_at.cycle_is.start;
      begins = began_at.cycle_is.begins;
      marked = was_reached;
      stood = began_at.stood;
    }
