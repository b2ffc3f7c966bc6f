-- What the handshake of a stop says of phases, by the actors at their seats; and that nobody marks while no cycle is marked: processors and workers are calm then, and the coordinator sets no mark and writes no buffer.
use Rattle.std.proofs.Common.{◌≡◌, ◌≢◌, ◌⊎◌, inl, inr, ℕ, ◌+◌, ◌<◌, true, false, refl, sym, ap, subst, ◌∙◌, arith, List, [], ◌∷◌, ◌++◌, Option, Some, None}
use Rattle.gh_law.proofs.Vocabulary.{acks_of, AcksAlone, Actor, actors_after, Answer, answers_of, Arena, arena, Ask, asks_at, asks_by_sweep, Begins, Cell, Check, Close, CloseStage, ClosingIsBusy, Coordinating, CoordStage, Count, Done, EndsInOrder, Entry, FactsAt, FindsTheStop, Finished, first_words, given_of, goes_then, HasState, Holds, HoldsAt, idle_sweeps_none, is_busy_at, IsClosing, IsInSweep, IsLed, IsMarkingStep, IsQuiet, IsSeated, IsStartOf, IsStopped, IsTelling, KeepsIt, Kind, last_phase, Layout, Legal, legal_start, ListsKnown, LoadAck, LoadWant, MarkOn, MarksInPhase, nat_tests, NobodyMarks, only_polls, Op, Open, option_to_list, PhasesAreKnown, PhasesStand, place_of, Processor, processor_at, processor_kind, Resumes, ResumeStage, run_is, seated, Setup, SoundPlace, stage_of, StandsEmpty, StandsStill, started, Stop, StopAgain, Sweep, sweep_of, Sweeping, SweepStage, Task, Tell, TellStage, those, View, view, Watch, Words, words, Working, WritesOf}
use Rattle.gh_sweep.specs.Listing as sweep
use Rattle.gh_coord.specs.Closing as close
use Rattle.gh_coord.specs.Handshake as leading
use Rattle.gh_mutator_writes.specs.Calm.{IsWrittenCalmly, IsCalm as MarksNothing}
use Rattle.gh_mutator.specs.Sweeping.{sweep_in}
use Rattle.gh_lists.specs.Handshake as handshake
use Rattle.gh_holds.specs.Below.{calm_now}
use Rattle.gh_lists.specs.Steps as seats

-- Who goes on after a stop stands empty.

stands_empty : (m : Processor) (stops : ℕ) (stage : ResumeStage) → stage_of m ≡ Resumes stops stage → SoundPlace m → StandsEmpty m
stands_empty m stops stage is sound = grind arith

-- and nothing is pending of it
none_pending : (z : Arena) (a : ℕ) (v : View) (m : Processor) (pending : Option Answer) (t : Task) → only_polls t ≡ true → FactsAt z a v m pending t → pending ≡ None
none_pending z a v m pending t polls is = grind arith

-- Who is calm makes no step that marks.

calm_none : (l : Layout) (m : Processor) → sweep_in m ≡ None → (q : Ask) → WritesOf (IsWrittenCalmly l m) q → IsMarkingStep q → ⊥
calm_none l m none q w x = grind arith

rest_none : (seat : ℕ) (q : Ask) → AcksAlone seat q → IsMarkingStep q → ⊥
rest_none seat q w x = grind arith

-- Nor does the coordinator.

span_none : (l : Layout) (m : sweep.Sweeping) (p : SweepStage) → IsMarkingStep (sweep.asks_at l m p) → ⊥
span_none l m p x = grind arith

lead_none : (l : Layout) (c : Coordinating) (p : CoordStage) → IsMarkingStep (asks_at l c p) → ⊥
lead_none l c p x = grind arith

module _ (setup : Setup) (lists : ListsKnown setup) where
  abbrev z : Arena
  z = arena setup

  abbrev kind : Kind Processor Op
  kind = processor_kind setup.shapes setup.layout

  abbrev Lawful : List (Entry Op) → Type 0
  Lawful es = Legal (those setup) es

  abbrev Led : List (Entry Op) → Coordinating → Type 0
  Led es c = IsLed setup es c

  abbrev at : List (Entry Op) → ℕ → Actor
  at es a = actors_after z setup.pacing setup.may es a

  -- A cycle is marked, or nobody marks, at whatever stage the coordinator is.
  module _ (es : List (Entry Op)) (c : Coordinating) where
    record NobodyThen (p : CoordStage) : Type 0 where
      off : leading.Marks p → ⊥
      has : HasState setup es
      cycle : ℕ
      nobody : NobodyMarks setup es cycle has.state.heap.words

    told_quiet : (p : TellStage) → IsTelling setup es c p → IsQuiet setup es c
    told_quiet TellStage.Ended h = absurd h
    told_quiet TellStage.StoreTrigger h = h.quiet
    told_quiet TellStage.StoreSwept h = h.quiet
    told_quiet TellStage.StorePhase h = h.quiet

    quiet_then : (p : CoordStage) → (leading.Marks p → ⊥) → IsQuiet setup es c → NobodyThen p
    quiet_then p off q = record { off = off; has = q.has; cycle = c.begun + 1; nobody = q.nobody }

    closing_nobody : (y : close.Closing) (p : CloseStage) → y.stage ≡ p → close.is_busy p ≡ true → IsClosing setup es c p → leading.Marks (Close y) ⊎ NobodyThen (Close y)
    closing_nobody y CloseStage.StorePhase at going h = inr (record { off = λ on. absurd (let no : false ≡ true = sym (ap close.is_marking at) ∙ on in cc); has = h.has; cycle = c.begun + 1; nobody = h.nobody })
    closing_nobody y CloseStage.Ended at going h = absurd h
    closing_nobody y _ at going h = inl (ap close.is_marking at)

    marks_or_nobody : (p : CoordStage) → ClosingIsBusy p → HoldsAt setup es c p → leading.Marks p ⊎ NobodyThen p
    marks_or_nobody (Open o) going h = inr (record { off = λ x. x; has = h.0.has; cycle = c.begun; nobody = h.0.nobody })
    marks_or_nobody (Watch w) going h = inl tt
    marks_or_nobody (StopAgain st) going h = inl tt
    marks_or_nobody (Check w) going h = inl tt
    marks_or_nobody MarkOn going h = inl tt
    marks_or_nobody (Close y) going h = closing_nobody y y.stage refl going h
    marks_or_nobody (Sweep w) going s = inr (record { off = λ x. x; has = s.has; cycle = c.begun + 1; nobody = s.nobody })
    marks_or_nobody (Count y) going h = inr (quiet_then (Count y) (λ x. x) h.quiet)
    marks_or_nobody (Tell t) going h = inr (quiet_then (Tell t) (λ x. x) (told_quiet t.stage h))
    marks_or_nobody (LoadAck i) going q = inr (quiet_then (LoadAck i) (λ x. x) q)
    marks_or_nobody LoadWant going q = inr (quiet_then LoadWant (λ x. x) q)
    marks_or_nobody (Stop st) going q = inr (quiet_then (Stop st) (λ x. x) q)
    marks_or_nobody Done going h = inr (quiet_then Done (λ x. x) h.quiet)

    -- where none is marked no buffer has an entry, and nobody holds one
    all_empty : Led es c → HoldsAt setup es c c.stage → (leading.Marks c.stage → ⊥) → (b : ℕ) → words setup es (Cell.Buffer b) ≡ 0
    all_empty led h off b = elim (marks_or_nobody c.stage (goes_then setup es c led) h) [
      | inl on ↦ absurd (off on)
      | inr x ↦ sym (ap (λ (w : Words). w (Cell.Buffer b)) x.has.of_list.words_are) ∙ x.nobody.buffers b
    ]

  -- An entry behind a list.
  module _ (e : Entry Op) (es : List (Entry Op)) (legal : Lawful (e ∷ es)) (c : Coordinating) (led : Led es c) where
    module _ (has : HasState setup es) where
      idle : (m : Processor) → at es e.actor ≡ Actor.Runs m → (o : Option Op) → Begins (those setup) e.actor es o → (p : Op) → o ≡ Some p → is_busy_at m.task ≡ false
      idle m is o b p same = grind arith

      -- what a processor sweeps, before it begins an operation and then
      sweeps_before : (m : Processor) → seats.RunsIt setup e es m → IsInSweep e.actor has.state (sweep_in m)
      sweeps_before m x = subst (λ (y : Actor). IsInSweep e.actor has.state (sweep_of y)) x.is (has.sweeps e.actor legal.1.actor)

      in_sweep : (m : Processor) → seats.RunsIt setup e es m → (o : Option Op) → ((p : Op) → o ≡ Some p → is_busy_at m.task ≡ false) → IsInSweep e.actor has.state (sweep_in (started kind o m))
      in_sweep m x None rests = sweeps_before m x
      in_sweep m x (Some o) rests =
          let none = idle_sweeps_none m.task (rests o refl) in
          subst (IsInSweep e.actor has.state) (sym (lists.known.processors_sweep.begun setup.shapes setup.layout m o none)) (subst (IsInSweep e.actor has.state) none (sweeps_before m x))

      -- nobody marks with it where no cycle is marked
      nobody_marks : (leading.Marks c.stage → ⊥) → ((a : ℕ) → a < setup.layout.procs → MarksNothing (processor_at setup es a)) → IsMarkingStep e.ask → ⊥
      nobody_marks off calm = by (seats.step setup e es lists.known.writes legal (lists.keeps es legal.0)) where
        runs : (m : Processor) → seats.RunsIt setup e es m → (z : Option Sweeping) → sweep_in (started kind e.begun m) ≡ z → IsMarkingStep e.ask → ⊥
        runs m x None none y =
            let calm_there : MarksNothing m = subst MarksNothing (run_is setup es e.actor m x.seat x.is) (calm e.actor x.seat) in
            let quiet = calm_now setup.shapes setup.layout lists.known e.begun m x.sound_it (idle m x.is e.begun legal.1.begins) calm_there in
            calm_none setup.layout (started kind e.begun m) none e.ask (subst (WritesOf (IsWrittenCalmly setup.layout (started kind e.begun m))) (sym x.asked) (lists.known.calm.writes setup.layout (started kind e.begun m) quiet)) y
        runs m x (Some sw) is y =
            let busy = (subst (IsInSweep e.actor has.state) is (in_sweep m x e.begun (idle m x.is e.begun legal.1.begins))).1 in
            span_none setup.layout sw sw.stage (subst IsMarkingStep (x.asked ∙ (lists.known.processors_sweep.on setup.layout setup.shapes (started kind e.begun m) sw is busy).asks_so) y)

        works : (w : Working) → seats.WorksIt setup e es w → IsMarkingStep e.ask → ⊥
        works w x y = elim (asks_by_sweep setup.layout w w.stage) [
          | inl none ↦ rest_none w.seat e.ask (subst (AcksAlone w.seat) (sym x.asked) (lists.known.workers_calm.writes setup.layout w x.sound_it (lists.rests es legal.0 c e.actor w led off x.is) none x.busy)) y
          | inr s ↦ span_none setup.layout s.0 s.0.stage (subst IsMarkingStep (x.asked ∙ s.1) y)
        ]

        by : seats.Step setup e es → IsMarkingStep e.ask → ⊥
        by (seats.by_processor m x s) y = runs m x (sweep_in (started kind e.begun m)) refl y
        by (seats.by_worker w x s) y = works w x y
        by (seats.by_lead d x) y = lead_none setup.layout d d.stage (subst IsMarkingStep x.asked y)

    pub marks_in_cycle : HoldsAt setup es c c.stage → IsMarkingStep e.ask → leading.Marks c.stage
    marks_in_cycle h y = elim (marks_or_nobody es c c.stage (goes_then setup es c led) h) [
      | inl on ↦ on
      | inr x ↦ absurd (nobody_marks x.has x.off x.nobody.processors y)
    ]

    -- in a stopped world
    pub stands_there : IsStopped c → e.actor ≢ acks_of setup.layout → FindsTheStop setup e es c
    stands_there stopped other =
        let within : e.actor < acks_of setup.layout + 1 = legal.1.actor in
        let below : e.actor < acks_of setup.layout = grind (arith, nat_tests, within, other) in
        let x = (lists.steps e es legal).still (leading.lead_of c) stopped.0 (ap place_of led) stopped.1 below in
        record { asks = x.0; found = x.1; place = x.2 }

  -- A list.
  module _ (es : List (Entry Op)) (legal : Lawful es) where
    keeps : KeepsIt (those setup) es
    keeps = lists.keeps es legal

    runs_below : (a : ℕ) (m : Processor) → at es a ≡ Actor.Runs m → a < acks_of setup.layout
    runs_below a m is = let lt : a < setup.layout.procs = subst (IsSeated setup.layout a) is (seated setup es a) in omega (arith, lt)

    works_below : (a : ℕ) (w : Working) → at es a ≡ Actor.Marks w → a < acks_of setup.layout
    works_below a w is = seats.worker_seat setup es a w is

    sound_at : (a : ℕ) (x : Actor) → a < acks_of setup.layout → at es a ≡ x → handshake.Sound setup.layout x
    sound_at a x lt is = subst (handshake.Sound setup.layout) is (keeps.shakes.all_sound a (omega (arith, lt)))

    empty : (a : ℕ) (m : Processor) (stops : ℕ) (stage : ResumeStage) → at es a ≡ Actor.Runs m → stage_of m ≡ Resumes stops stage → StandsEmpty m
    empty a m stops stage is y = stands_empty m stops stage y (sound_at a (Actor.Runs m) (runs_below a m is) is).place

    answered : HasState setup es → (a : ℕ) (m : Processor) (stops : ℕ) (stage : ResumeStage) → at es a ≡ Actor.Runs m → stage_of m ≡ Resumes stops stage → answers_of z (first_words setup) a es ≡ given_of z (first_words setup) a es
    answered has a m stops stage is y =
        let lt : a < setup.layout.procs = subst (IsSeated setup.layout a) is (seated setup es a) in
        let x = has.of_list.processors a lt in
        let polls : only_polls (processor_at setup es a).task ≡ true = subst (λ (p : Processor). only_polls p.task ≡ true) (sym (run_is setup es a m lt is)) (empty a m stops stage is y).waits in
        let none = none_pending z a (view has.state.heap) (processor_at setup es a) x.pending (processor_at setup es a).task polls x.fine.task in
        x.answers ∙ ap (λ (p : Option Answer). option_to_list p ++ given_of z (first_words setup) a es) none

    phases_known : HasState setup es → PhasesAreKnown setup es
    phases_known has = record {
      processors = λ a m is. keeps.processors_know a m (runs_below a m is) is;
      workers = λ a w is. keeps.workers_know a w (works_below a w is) is;
      resuming = empty;
      answered = answered has;
      workers_resuming = λ a w stops stage is y. let calm = (lists.known.workers_places.rests w stops stage (sound_at a (Actor.Marks w) (works_below a w is) is) y).calm in record { no_buffer = calm.none; none_left = calm.handed };
    }

    marks_in_phase : (c : Coordinating) → Led es c → MarksInPhase setup es c
    marks_in_phase c led = record {
      processors = λ a m is. keeps.processors_mark c a m led (runs_below a m is) is;
      workers = λ a w is. keeps.workers_mark c a w led (works_below a w is) is;
      working = λ a w is. keeps.marking c a w led (works_below a w is) is;
    }

    stands_still : (c : Coordinating) → Led es c → IsStopped c → StandsStill setup es c
    stands_still c led x = record {
      processors = λ a m is. keeps.processors_wait c x.0 a m led x.1 (runs_below a m is) is;
      workers = λ a w is. keeps.workers_wait c x.0 a w led x.1 (works_below a w is) is;
    }

    ends_in_order : (c : Coordinating) → Led es c → EndsInOrder setup es c
    ends_in_order c led = record {
      begins = keeps.processors_gone c led;
      workers_leave = λ a w is. keeps.workers_leave a w (works_below a w is) is;
    }

  finished_on : (start es : List (Entry Op)) → Lawful es → IsStartOf start es → last_phase start ≡ Finished → last_phase es ≡ Finished
  finished_on start [] legal of is = subst (λ (x : List (Entry Op)). last_phase x ≡ Finished) of is
  finished_on start (e ∷ es) legal (inl of) is = subst (λ (x : List (Entry Op)). last_phase x ≡ Finished) of is
  finished_on start (e ∷ es) legal (inr of) is = (lists.steps e es legal).finished (finished_on start es legal.0 of is)

  pub phases_stand : ((es : List (Entry Op)) → Lawful es → HasState setup es) → ((es : List (Entry Op)) → Lawful es → (c : Coordinating) → Led es c → Holds setup es c) → (es : List (Entry Op)) → Lawful es → PhasesStand setup es
  phases_stand has holds es legal = record {
    known = phases_known es legal (has es legal);
    marking = marks_in_phase es legal;
    stopped = stands_still es legal;
    last = ends_in_order es legal;
    buffers = λ c led off. all_empty es c led (holds es legal c led).at off;
    marks = λ e before c of led. marks_in_cycle e before (start e before of) c led (holds before (start e before of).0 c led).at;
    still = λ e before c of led. stands_there e before (start e before of) c led;
    finished = λ earlier of. finished_on earlier es legal of;
  } where
    start : (e : Entry Op) (before : List (Entry Op)) → IsStartOf (e ∷ before) es → Lawful (e ∷ before)
    start e before of = legal_start (those setup) (e ∷ before) es of legal
