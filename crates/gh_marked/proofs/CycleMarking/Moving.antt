-- One entry more while a cycle is marked, by the actor that makes it: its step is made of moves of marking, and what is known of all others lasts. And the begin of a cycle.
use Rattle.std.proofs.Common.{◌≡◌, ◌≢◌, ℕ, suc, ◌+◌, ◌/◌, ◌%◌, ◌<◌, ◌≤◌, ◌==◌, Bool, true, false, refl, sym, ap, subst, ◌∙◌, arith, List, ◌∷◌, Some, None}
use Rattle.gh_marked.proofs.Vocabulary.{acks_of, Actor, actors_after, Acts, alloc_words, Arena, Ask, begin_post, beyond_goes, bit_at, Cell, cell_of, counted, Cycle, done_by, EachHandFollows, EachHandLasts, EachStepGoesByMoves, effect, Entry, goes, Hands, IsBeginning, IsInMarking, IsLedBy, IsLight, IsSeated, KeepsIt, Kind, Knows, KnowsHeap, LeavesObjects, Legal, MarkFacts, MarkingBegins, MarksByMoves, MayBegin, most_scanned, mul-le-mul_right, nat_tests, nothing, Op, other, Pacing, PackedWordsAreReadBack, Party, place_of, Processor, processor_kind, ProcessorWritesItsOwn, Quiet, RestsAtStop, Row, row_bit, RunPhase, SameExtent, scanned_by, seated, seats_of, setting, Setup, setup_in, Shared, Sound, started, stays, StepsByMoves, StepsGoByMoves, stored_in, stored_rises, WaitsWithNone, WasMarked, Went, Words, WorkersAreRoutines, WorkersKeepPlaces, works}
use Rattle.gh_marks.specs.Laws.{Begins}
use Rattle.gh_marks.specs.Moves.{moved, Others, Steps}
use Rattle.gh_phase.specs.declared.resume.ResumeStage.TheVariants.{LoadPhase}
use Rattle.gh_phase.specs.ResumePlaces as resumes
use Rattle.gh_coord.specs.Handshake as leading
use Rattle.gh_coord.specs.Listing as coord
use Rattle.gh_worker.specs.Handshake as working
use Rattle.gh_worker.specs.Listing as worker
use Rattle.gh_worker.specs.MarkFacts as marks
use Rattle.gh_lists.specs.Marking.{words}
use Rattle.gh_marks.specs.Good.{Good}
use Rattle.gh_marked.specs.Beside.{LeavesHeap, works_so}
use Rattle.gh_marked.proofs.CycleMarking.Placing.{places_none}
use Rattle.gh_lists.specs.Steps as seats
use Rattle.gh_marked.proofs.Scanned.Routines.{has_step}
use Rattle.gh_marked.proofs.Scanned.Works as scanned

-- a bit is that of its word
same_bit : (r q : Row) (o : ℕ) → r (o / 64) ≡ q (o / 64) → row_bit q o ≡ 1 → row_bit r o ≡ 1
unfolding row_bit
same_bit r q o e h = ap (λ (v : ℕ). bit_at v (o % 64)) e ∙ h

-- Moves that take no slot leave the objects of the cycle: one that came to be would have taken one.
pub record SameObjects (s t : Shared) : Type 0 where
  pub since : (o : ℕ) → t.since o ≡ s.since o
  pub extents : (o : ℕ) → s.since o ≡ true → SameExtent s.extents t.extents o

pub objects_stay : EachStepGoesByMoves → (z : Cycle) (a : ℕ) (s t : Shared) → Good z s → Went z a s t → ((x : ℕ) → t.words (Cell.Alloc x) ≡ s.words (Cell.Alloc x)) → SameObjects s t
objects_stay steps z a s t good went slots = record { since = λ o. by o (t.since o) (s.since o) refl refl; extents = others.keeps.extents } where
  step : StepsGoByMoves z a s t
  step = steps z a s t good went

  others : Others z (suc a) s t
  others = step.others (suc a) (λ e. omega (arith, e))

  placed : (o : ℕ) → t.since o ≡ true → row_bit (alloc_words s.words) o ≡ 1
  placed o e = same_bit (alloc_words s.words) (alloc_words t.words) o (sym (slots (o / 64))) (step.good.objects.placed o (step.good.objects.of_cycle o e))

  by : (o : ℕ) (now was : Bool) → t.since o ≡ now → s.since o ≡ was → t.since o ≡ s.since o
  by o true true e f = e ∙ sym f
  by o false false e f = e ∙ sym f
  by o true false e f = absurd (let d = step.dead o (record { placed = placed o e; dead = f }) in let no : true ≡ false = sym e ∙ d.dead in cc)
  by o false true e f = absurd (let no : true ≡ false = sym (others.keeps.since o f) ∙ e in cc)

is_one : (a b : ℕ) → (a == b) ≡ true → a ≡ b
is_one a b x = grind (arith, nat_tests, x)

is_other : (a b : ℕ) → (a == b) ≡ false → b ≢ a
is_other a b x y = grind (arith, nat_tests, x, y)

-- what gh_base, gh_marks, gh_mutator, its writes and gh_worker say
pub record Known : Type 0 where
  pub read : PackedWordsAreReadBack
  pub processors : MarksByMoves
  pub writes : ProcessorWritesItsOwn
  pub workers : marks.WorksByMoves
  pub routines : WorkersAreRoutines
  pub places : WorkersKeepPlaces
  pub begin : MarkingBegins
  pub steps : EachStepGoesByMoves
  pub follow : EachHandFollows
  pub last : EachHandLasts

-- What is known of steps, and of the heap beside them.
pub record Moves (arena : Arena) (pacing : Pacing) (may : ℕ → List (Entry Op) → Op → Bool) : Type 0 where
  pub known : Known
  pub polls : StepsByMoves arena pacing may
  pub heap : KnowsHeap arena pacing may

module _ (arena : Arena) (pacing : Pacing) (may : ℕ → List (Entry Op) → Op → Bool) (moves : Moves arena pacing may) where
  abbrev k : Kind Processor Op
  k = processor_kind arena.shapes arena.layout

  abbrev n : ℕ
  n = acks_of arena.layout

  abbrev it : Setup
  it = setup_in arena pacing may

  abbrev at : List (Entry Op) → ℕ → Actor
  at = actors_after arena pacing may

  abbrev In : List (Entry Op) → coord.Coordinating → Type 0
  In = IsInMarking arena pacing may

  -- The next entry leaves who leads at this, and a cycle was marked.
  pub record MarksOn (e : Entry Op) (es : List (Entry Op)) (c : coord.Coordinating) (to : coord.Coordinating) : Type 0 where
    pub legal : Legal (setting arena pacing may) (e ∷ es)
    pub led : IsLedBy arena pacing may es c
    pub led_then : IsLedBy arena pacing may (e ∷ es) to
    pub on_then : leading.Marks to.stage
    pub begun_is : to.begun ≡ c.begun
    pub i : In es c

  module _ (e : Entry Op) (es : List (Entry Op)) (c : coord.Coordinating) (to : coord.Coordinating) (marking_on : MarksOn e es c to) where
    abbrev z : Cycle
    z = marking_on.i.cycle

    abbrev s : Shared
    s = marking_on.i.shared

    abbrev a : ℕ
    a = e.actor

    -- The state that its seat's step leads to, and what is known there.
    record Landed : Type 0 where
      shared : Shared
      went : Went z a s shared
      words_are : shared.words ≡ words arena pacing may (e ∷ es)
      heap_is : Knows arena pacing may z shared (e ∷ es)
      own_processor : (m : Processor) → at (e ∷ es) a ≡ Actor.Runs m → MarkFacts z a shared m
      own_worker : (w : worker.Working) → at (e ∷ es) a ≡ Actor.Marks w → marks.Facts z a shared w
      own_hand : n ≤ a → Hands a shared nothing

    module _ (landed : Landed) where
      abbrev t : Shared
      t = landed.shared

      step : StepsGoByMoves z a s t
      step = moves.known.steps z a s t marking_on.i.good landed.went

      processors : (b : ℕ) (m : Processor) → b < arena.layout.procs → at (e ∷ es) b ≡ Actor.Runs m → MarkFacts z b t m
      processors b m lt is = go (a == b) refl where
        go : (x : Bool) → (a == b) ≡ x → MarkFacts z b t m
        go true x = subst (λ (y : ℕ). MarkFacts z y t m) (is_one a b x) (landed.own_processor m (ap (at (e ∷ es)) (is_one a b x) ∙ is))
        go false x = moves.known.processors.lasts z b s t m (step.others b (is_other a b x)) (marking_on.i.processors b m lt (sym (other it e es b x) ∙ is))

      workers : (b : ℕ) (w : worker.Working) → b < n → at (e ∷ es) b ≡ Actor.Marks w → marks.Facts z b t w
      workers b w lt is = go (a == b) refl where
        go : (x : Bool) → (a == b) ≡ x → marks.Facts z b t w
        go true x = subst (λ (y : ℕ). marks.Facts z y t w) (is_one a b x) (landed.own_worker w (ap (at (e ∷ es)) (is_one a b x) ∙ is))
        go false x = moves.known.workers.lasts z b s t w (step.others b (is_other a b x)) (marking_on.i.workers b w lt (sym (other it e es b x) ∙ is))

      coordinator : (b : ℕ) → n ≤ b → Hands b t nothing
      coordinator b le = go (a == b) refl where
        go : (x : Bool) → (a == b) ≡ x → Hands b t nothing
        go true x = subst (λ (y : ℕ). Hands y t nothing) (is_one a b x) (landed.own_hand (subst (λ (y : ℕ). n ≤ y) (sym (is_one a b x)) le))
        go false x = moves.known.last z b s t nothing (step.others b (is_other a b x)) (marking_on.i.coordinator b le)

      -- what its seat is done with is counted
      scans : (m : Actor) → at es a ≡ m → scanned_by it e es + counted arena.layout s ≤ counted arena.layout t
      scans m is = subst (λ (x : Actor). done_by arena.layout x e.found + counted arena.layout s ≤ counted arena.layout t) (sym is) (subst (λ (r : Arena). done_by r.layout m e.found + counted r.layout s ≤ counted r.layout t) marking_on.i.is.arena_is (go m is)) where
        go : (m : Actor) → at es a ≡ m → done_by z.arena.layout m e.found + counted z.arena.layout s ≤ counted z.arena.layout t
        go (Actor.Runs m) is = scanned.none_done moves.known.steps z a s t marking_on.i.good (moves.heap.objects z s es marking_on.i.good marking_on.i.known) marking_on.i.none_beyond landed.went
        go (Actor.Marks w) is = scanned.works moves.known.steps z a s t marking_on.i.good (moves.heap.objects z s es marking_on.i.good marking_on.i.known) marking_on.i.none_beyond landed.went w e.found (has_step it es a w is)
            (marking_on.i.workers a w (subst (IsSeated arena.layout a) is (seated it es a)).1 is) (landed.own_worker (worker.goes z.arena.layout w e.found) (works it e es w is ∙ ap (λ (r : Arena). Actor.Marks (worker.goes r.layout w e.found)) (sym marking_on.i.is.arena_is)))
        go (Actor.Leads x) is = scanned.none_done moves.known.steps z a s t marking_on.i.good (moves.heap.objects z s es marking_on.i.good marking_on.i.known) marking_on.i.none_beyond landed.went

      next : In (e ∷ es) to
      next = record {
        cycle = z;
        shared = t;
        is = record { arena_is = marking_on.i.is.arena_is; number_is = marking_on.i.is.number_is ∙ sym marking_on.begun_is; words_are = landed.words_are };
        good = step.good;
        known = landed.heap_is;
        processors = processors;
        workers = workers;
        coordinator = coordinator;
        scanned = let before = marking_on.i.scanned in let more = scans (at es a) refl in let ended = mul-le-mul_right (most_scanned arena.layout) (stored_rises Cell.Gen e.ask (stored_in Cell.Gen es)) in omega (arith, before, more, ended);
        none_beyond = beyond_goes z a s t landed.went marking_on.i.none_beyond;
      }

    -- the words behind the step
    words_then : (t : Shared) (ask : Ask) → t.words ≡ effect s.words ask → e.ask ≡ ask → t.words ≡ words arena pacing may (e ∷ es)
    words_then t ask is asked = is ∙ (ap (effect s.words) (sym asked) ∙ ap (λ (w : Words). effect w e.ask) marking_on.i.is.words_are)

    -- whoever steps so leaves the objects
    leaves_objects : (t : Shared) (ask : Ask) → Went z a s t → t.words ≡ effect s.words ask → LeavesHeap ask → LeavesObjects s t
    leaves_objects t ask went is h = record {
      since = objects.since;
      extents = objects.extents;
      page = λ x. ap (λ (w : Words). w (Cell.Page x)) is ∙ h.page s.words x;
      alloc = slots;
      bitmap = λ x. ap (λ (w : Words). w (Cell.Bitmap x)) is ∙ h.bitmap s.words x;
    } where
      slots : (x : ℕ) → t.words (Cell.Alloc x) ≡ s.words (Cell.Alloc x)
      slots x = ap (λ (w : Words). w (Cell.Alloc x)) is ∙ h.alloc s.words x

      objects : SameObjects s t
      objects = objects_stay moves.known.steps z a s t marking_on.i.good went slots

    -- by a processor
    pub by_processor : (m : Processor) → leading.Marks c.stage → seats.RunsIt it e es m → In (e ∷ es) to
    by_processor m on x = next (record {
      shared = land.then;
      went = land.went;
      words_are = words_then land.then e.ask land.words_are refl;
      heap_is = land.after.1;
      own_processor = λ p now. subst (MarkFacts z a land.then) (let both : Actor.Runs (k.takes (started k e.begun m) e.found) ≡ Actor.Runs p = sym x.then ∙ now in cc) land.after.0;
      own_worker = λ w now. absurd (let both : Actor.Runs (k.takes (started k e.begun m) e.found) ≡ Actor.Marks w = sym x.then ∙ now in cc);
      own_hand = λ le. absurd (let lt = x.seat in omega (arith, lt, le));
    }) where
      land : Steps z a s e.ask (λ t. MarkFacts z a t (k.takes (started k e.begun m) e.found) × Knows arena pacing may z t (e ∷ es))
      land = moves.polls e es c marking_on.legal marking_on.led on z s m marking_on.i.is marking_on.i.good marking_on.i.known x.seat x.is (marking_on.i.processors a m x.seat x.is)

    -- by a worker, which sweeps no span
    pub by_worker : (w : worker.Working) → worker.sweep_in w ≡ None → seats.WorksIt it e es w → In (e ∷ es) to
    by_worker w none x = next (record {
      shared = land.then;
      went = land.went;
      words_are = then_words;
      heap_is = moves.heap.lasts e es c to marking_on.legal marking_on.led marking_on.led_then marking_on.on_then z s land.then marking_on.i.is marking_on.i.good (moves.known.steps z a s land.then marking_on.i.good land.went).good marking_on.i.known x.from land.went (leaves_objects land.then (worker.asks arena.layout w) land.went land.words_are (works_so moves.known.routines arena.layout w none)) (places_none z a land.then (worker.goes arena.layout w (s.words (cell_of (worker.asks arena.layout w)))) land.after) then_words;
      own_processor = λ p now. absurd (let both : Actor.Marks (worker.goes arena.layout w e.found) ≡ Actor.Runs p = sym x.then ∙ now in cc);
      own_worker = λ v now. subst (marks.Facts z a land.then) (let both : Actor.Marks (worker.goes arena.layout w e.found) ≡ Actor.Marks v = sym x.then ∙ now in cc) (subst (λ (y : ℕ). marks.Facts z a land.then (worker.goes arena.layout w y)) (sym found) land.after);
      own_hand = λ le. absurd (let lt = x.seat in omega (arith, lt, le));
    }) where
      land : Steps z a s (worker.asks arena.layout w) (λ t. marks.Facts z a t (worker.goes arena.layout w (s.words (cell_of (worker.asks arena.layout w)))))
      land = subst (λ (r : Arena). Steps z a s (worker.asks r.layout w) (λ t. marks.Facts z a t (worker.goes r.layout w (s.words (cell_of (worker.asks r.layout w)))))) marking_on.i.is.arena_is
          (moves.known.workers.own_step z a s w marking_on.i.good (moves.heap.objects z s es marking_on.i.good marking_on.i.known) none (marking_on.i.workers a w x.seat x.is))

      found : e.found ≡ s.words (cell_of (worker.asks arena.layout w))
      found = marking_on.legal.1.found ∙ (ap (λ (q : Ask). words arena pacing may es (cell_of q)) x.asked ∙ ap (λ (v : Words). v (cell_of (worker.asks arena.layout w))) (sym marking_on.i.is.words_are))

      then_words : land.then.words ≡ words arena pacing may (e ∷ es)
      then_words = words_then land.then (worker.asks arena.layout w) land.words_are x.asked

    -- by the coordinator
    pub by_coordinator : seats.LeadsIt it e es c → IsLight (coord.asks arena.layout c) → In (e ∷ es) to
    by_coordinator x light = next (record {
      shared = t;
      went = went;
      words_are = then_words;
      heap_is = moves.heap.lasts e es c to marking_on.legal marking_on.led marking_on.led_then marking_on.on_then z s t marking_on.i.is marking_on.i.good (moves.known.steps z a s t marking_on.i.good went).good marking_on.i.known behind_processors went (leaves_objects t (coord.asks arena.layout c) went refl light.aside) (λ o is. absurd (let none : None ≡ Some o = ((marking_on.i.coordinator a (subst (λ (y : ℕ). n ≤ y) (sym x.seat) (omega arith))).has.is_reserved o).1 is in cc)) then_words;
      own_processor = λ p now. absurd (let both : Actor.Leads (coord.goes arena.layout c e.found) ≡ Actor.Runs p = sym then ∙ now in cc);
      own_worker = λ v now. absurd (let both : Actor.Leads (coord.goes arena.layout c e.found) ≡ Actor.Marks v = sym then ∙ now in cc);
      own_hand = λ le. (moves.known.follow z a s nothing marking_on.i.good (marking_on.i.coordinator a le)).quiet (coord.asks arena.layout c) (light.quiet s);
    }) where
      t : Shared
      t = moved z a s (Quiet (coord.asks arena.layout c))

      went : Went z a s t
      went = goes s (Quiet (coord.asks arena.layout c)) stays (light.quiet s)

      behind_processors : arena.layout.procs ≤ a
      behind_processors = let end = x.seat in omega (arith, end)

      then : at (e ∷ es) a ≡ Actor.Leads (coord.goes arena.layout c e.found)
      then = ap (at (e ∷ es)) x.seat ∙ x.then

      then_words : t.words ≡ words arena pacing may (e ∷ es)
      then_words = words_then t (coord.asks arena.layout c) refl x.asked

  -- The begin of a cycle: the world is stopped, and nobody has anything in hand.
  module _ (es : List (Entry Op)) (c : coord.Coordinating) (legal : Legal (setting arena pacing may) es) (led : IsLedBy arena pacing may es c) (b : IsBeginning c.stage)
      (was : WasMarked arena pacing may es) (keeps : KeepsIt (setting arena pacing may) es) where
    pub opened : MayBegin arena pacing may es c
    opened = grind arith

    begun : Begins opened.cycle opened.shared
    begun = moves.known.begin opened.cycle opened.shared opened.opens

    worker_knows : (a : ℕ) (w : worker.Working) → a < n → at es a ≡ Actor.Marks w → marks.Facts opened.cycle a opened.shared w
    worker_knows a w lt is = record {
      seat_in = subst (λ (x : Arena). a < seats_of x.layout) (sym opened.is.arena_is) (omega (arith, lt));
      seat_is = sym rests.seat_is ∙ seat;
      stage_is = rests.hands opened.cycle a opened.shared (begun.seats a);
    } where
      waits : WaitsWithNone (leading.lead_of c).stops w
      waits = keeps.workers_wait c RunPhase.Off a w led (begin_post c.stage b) lt is

      rests : RestsAtStop w
      rests = moves.known.places.rests w waits.routine.stops LoadPhase (subst (Sound arena.layout) is (keeps.shakes.all_sound a (omega arith))) (ap working.stands_at waits.is_at ∙ ap (resumes.stands_at waits.routine.stops) waits.loads)

      seat : (working.party_of w).seat ≡ a
      seat =
          let each = keeps.shakes.each a lt in
          let both : Acts (working.party_of w) (working.stage_of w) ≡ Acts each.0 each.1 = ap place_of (sym is) ∙ each.2 in
          let parties : working.party_of w ≡ each.0 = cc in
          ap (λ (x : Party). x.seat) parties ∙ each.3

    pub begins : In es c
    begins = record {
      cycle = opened.cycle;
      shared = opened.shared;
      is = opened.is;
      good = begun.good;
      known = opened.known;
      processors = opened.processors;
      workers = worker_knows;
      coordinator = λ a le. begun.seats a;
      scanned = let before = moves.heap.scanned es c legal led b was in omega (arith, before);
      none_beyond = λ i le. opened.opens.untouched i;
    }
