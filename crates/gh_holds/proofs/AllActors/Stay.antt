-- An entry that changes nothing: no word, no processor, no sweep that anyone runs, and nothing of the heap that never frees. So is each entry of another than the coordinator in a stopped world. What holds stays as it is.
use Rattle.std.proofs.Common.{◌≡◌, inl, inr, ℕ, ◌+◌, ◌<◌, ◌≤◌, ◌==◌, false, refl, sym, ap, subst, ◌∙◌, arith, List, ◌∷◌, None}
use Rattle.gh_holds.proofs.Vocabulary.{acks_of, Actor, actors_after, alloc_words, answers_of, answers_stay, Arena, arena, by, Coordinating, CountStage, ended_in, EndedSo, Entry, Ever, ever, ever_stays, first_words, given_of, given_stay, HasEnded, HasState, Heap, IsCounting, IsHeapOf, IsInCycle, IsInSweep, IsLed, IsMade, IsNewThere, IsPlacedAt, IsQuiet, IsReady, IsSweeping, IsTold, Known, Legal, ListsKnown, MarksNothing, nat_tests, NobodyMarks, Op, own_stay, Processor, processor_at, row_bit, RunPhase, Setup, State, state_stays, Stopped, sweep_of, SweepingAll, those, uncounted, Words, words, Working, works}
use Rattle.gh_coord.specs.Handshake as leading
use Rattle.gh_worker.specs.Listing.{goes, sweep_at}

module _ (setup : Setup) (e : Entry Op) (es : List (Entry Op)) where
  abbrev z : Arena
  z = arena setup

  abbrev at : List (Entry Op) → ℕ → Actor
  at xs a = actors_after z setup.pacing setup.may xs a

  pub record ChangesNothing : Type 0 where
    pub words_are : words setup (e ∷ es) ≡ words setup es
    pub ever_is : ever setup (e ∷ es) ≡ ever setup es
    pub processors : (a : ℕ) → a < setup.layout.procs → processor_at setup (e ∷ es) a ≡ processor_at setup es a
    pub answers : (a : ℕ) → a < setup.layout.procs → answers_of z (first_words setup) a (e ∷ es) ≡ answers_of z (first_words setup) a es
    pub given : (a : ℕ) → a < setup.layout.procs → given_of z (first_words setup) a (e ∷ es) ≡ given_of z (first_words setup) a es
    pub ended : (a : ℕ) → a < setup.layout.procs → (g : ℕ) → ended_in (by a (e ∷ es)) g ≡ ended_in (by a es) g
    -- nor is it the coordinator's
    pub led : (c : Coordinating) → IsLed setup (e ∷ es) c → IsLed setup es c
    -- and each seat runs the sweep that it ran, if it ran one
    pub sweeps : (a : ℕ) → sweep_of (at (e ∷ es) a) ≡ sweep_of (at es a)

  pub led_by_it : e.actor < acks_of setup.layout → (c : Coordinating) → IsLed setup (e ∷ es) c → IsLed setup es c
  led_by_it among c is = grind arith

  -- what the entry's own actor sweeps says so of all
  pub sweeps_same : sweep_of (at (e ∷ es) e.actor) ≡ sweep_of (at es e.actor) → (a : ℕ) → sweep_of (at (e ∷ es) a) ≡ sweep_of (at es a)
  sweeps_same own a = grind (arith, nat_tests)

  -- where the world is stopped a worker waits at the stop, before its step and behind it, and sweeps nothing
  module _ (lists : ListsKnown setup) (legal : Legal (those setup) (e ∷ es)) (c : Coordinating) (phase : RunPhase) (led : IsLed setup es c) (post : leading.post_at c.stage ≡ Stopped phase) (among : e.actor < acks_of setup.layout) where
    sweeps_none : (xs : List (Entry Op)) → Legal (those setup) xs → IsLed setup xs c → (w : Working) → at xs e.actor ≡ Actor.Marks w → sweep_of (at xs e.actor) ≡ None
    sweeps_none xs lawful led_there w is = ap sweep_of is ∙ ap sweep_at ((lists.keeps xs lawful).workers_wait c phase e.actor w led_there post among is).is_at

    led_then : IsLed setup (e ∷ es) c
    led_then = grind (arith, nat_tests)

    pub worker_sweeps_none : (w : Working) → at es e.actor ≡ Actor.Marks w → sweep_of (at (e ∷ es) e.actor) ≡ sweep_of (at es e.actor)
    worker_sweeps_none w is = sweeps_none (e ∷ es) legal led_then (goes setup.layout w e.found) (works setup e es w is) ∙ sym (sweeps_none es legal.0 led w is)

  -- a step of another than a processor that changes no word
  pub changes_nothing : (known : Known) → Legal (those setup) (e ∷ es) → setup.layout.procs ≤ e.actor → e.actor < acks_of setup.layout → words setup (e ∷ es) ≡ words setup es → sweep_of (at (e ∷ es) e.actor) ≡ sweep_of (at es e.actor) → ChangesNothing
  changes_nothing known legal ge among same own = record {
    words_are = same;
    ever_is = ever_stays setup known.points e es legal ge;
    processors = λ a lt. state_stays setup e es a (apart a lt);
    answers = λ a lt. answers_stay setup e es a (apart a lt);
    given = λ a lt. given_stay setup e es a (apart a lt);
    ended = λ a lt g. ap (λ (ys : List (Entry Op)). ended_in ys g) (own_stay setup e es a (apart a lt));
    led = led_by_it among;
    sweeps = sweeps_same own;
  } where
    apart : (a : ℕ) → a < setup.layout.procs → (e.actor == a) ≡ false
    apart a lt = grind arith

  module _ (still : ChangesNothing) where
    pub heap_stays : (h : Heap) → IsHeapOf setup es h → IsHeapOf setup (e ∷ es) h
    heap_stays h of = grind arith

    pub in_cycle_stays : (k : ℕ) → IsInCycle setup es k → IsInCycle setup (e ∷ es) k
    in_cycle_stays k i = record { begun = i.begun; start = inr i.start; begins = i.begins; last = λ c led is. still.ever_is ∙ i.last c (still.led c led) is }

    new_stays : (ended : List (Entry Op)) (x : ℕ) → IsNewThere setup ended es x → IsNewThere setup ended (e ∷ es) x
    new_stays ended x new = record { name = new.name; not_yet = new.not_yet; few = new.few; placed = subst (λ (w : Words). IsPlacedAt w new.name x) (sym still.words_are) new.placed }

    pub ended_stays : (k : ℕ) (s : State) → EndedSo setup es k s → EndedSo setup (e ∷ es) k s
    ended_stays k s i = record {
      ended = i.ended;
      start = inr i.start;
      ends = i.ends;
      alloc = i.alloc;
      marks = i.marks;
      stood = λ n x made p. i.stood n x made (subst (λ (w : Words). IsPlacedAt w n x) still.words_are p);
      since = λ x is set. elim (i.since x is (subst (λ (w : Words). row_bit (alloc_words w) x ≡ 1) still.words_are set)) [ inl marked ↦ inl marked | inr new ↦ inr (new_stays i.ended x new) ];
      made = λ n made. subst (λ (v : Ever). IsMade v.made n) (sym still.ever_is) (i.made n made);
      last = λ c led is. let was = i.last c (still.led c led) is in (still.ever_is ∙ was.0, was.1);
    }

    pub has_ended_stays : (k : ℕ) (s : State) → HasEnded setup es k s → HasEnded setup (e ∷ es) k s
    has_ended_stays k s h = grind (arith, ended_stays, in_cycle_stays)

    abbrev pub has_stays : HasState setup es → HasState setup (e ∷ es)
    has_stays has = record {
      state = has.state;
      of_list = heap_stays has.state.heap has.of_list;
      good = has.good;
      placing = λ a lt. has.placing a lt ∙ ap (λ (m : Processor). uncounted m.task) (sym (still.processors a lt));
      others_place = has.others_place;
      sweeps = λ a lt. subst (IsInSweep a has.state) (sym (still.sweeps a)) (has.sweeps a lt);
    }

    pub nobody_marks : (cycle then_cycle : ℕ) → then_cycle ≡ cycle → (w : Words) → NobodyMarks setup es cycle w → NobodyMarks setup (e ∷ es) then_cycle w
    nobody_marks cycle then_cycle same w x = subst (λ (n : ℕ). NobodyMarks setup (e ∷ es) n w) (sym same) (record { buffers = x.buffers; stacks = x.stacks; processors = λ a lt. subst MarksNothing (sym (still.processors a lt)) (x.processors a lt) })

    abbrev pub quiet_stays : (c : Coordinating) → IsQuiet setup es c → IsQuiet setup (e ∷ es) c
    quiet_stays c q = record { has = has_stays q.has; over = q.over; passed = q.passed; nobody = nobody_marks (c.begun + 1) (c.begun + 1) refl q.has.state.heap.words q.nobody }

    pub ready_stays : (c : Coordinating) → IsReady setup es c → IsReady setup (e ∷ es) c
    ready_stays c r = record { has = has_stays r.has; under_way = r.under_way; marks = r.marks; nobody = nobody_marks c.begun c.begun refl r.has.state.heap.words r.nobody }

    pub sweeping_stays : (c : Coordinating) (w : SweepingAll) → IsSweeping setup es c w → IsSweeping setup (e ∷ es) c w
    sweeping_stays c w s = record {
      has = has_stays s.has;
      over = s.over;
      walks = s.walks;
      behind = has_ended_stays c.begun s.has.state s.behind;
      nobody = nobody_marks (c.begun + 1) (c.begun + 1) refl s.has.state.heap.words s.nobody;
    }

    pub counting_stays : (c : Coordinating) (stage : CountStage) → IsCounting setup es c stage → IsCounting setup (e ∷ es) c stage
    counting_stays c stage h = record { quiet = quiet_stays c h.quiet; behind = has_ended_stays c.begun h.quiet.has.state h.behind; read = h.read }

    pub told_stays : (c : Coordinating) → IsTold setup es c → IsTold setup (e ∷ es) c
    told_stays c h = record { quiet = quiet_stays c h.quiet; behind = has_ended_stays c.begun h.quiet.has.state h.behind; live = h.live }
