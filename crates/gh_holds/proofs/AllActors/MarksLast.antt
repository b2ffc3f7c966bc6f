-- While a cycle is marked, what is known of the heap lasts behind an entry of a worker or of the coordinator.
use Rattle.std.proofs.Common.{◌≡◌, ◌≢◌, ◌⊎◌, inl, inr, ℕ, ◌%◌, ◌<◌, ◌≤◌, ◌==◌, Bool, true, false, refl, sym, ap, subst, ◌∙◌, arith, List, ◌∷◌, Some, None}
use Rattle.gh_holds.proofs.Vocabulary.{acks_of, Actor, actors_after, Arena, arena, AreWords, began, began_words, begins, Cell, Coordinating, CoordinatorGoes, CoordStage, Cycle, drawn_then, Entry, Ever, ever, ever_stays, goes_on, goes_so, Good, HasGoneOn, HasState, Heap, IsInCycle, IsKnown, IsLed, IsOf, IsToBegin, IsTogether, IsUnderWay, last_was, leaves, Legal, ListsKnown, mark_words, Marking, MarkingGood, MarksAlone, mod_below, nat_tests, Op, other, Placing, Quiet, Setup, State, sweep_at, sweep_of, those, view, Went, Words, words}
use Rattle.gh_coord.specs.Handshake as leading
use Rattle.gh_coord.specs.Listing as coord
use Rattle.gh_worker.specs.Listing as worker
use Rattle.gh_worker.specs.Sound.{marks}
use Rattle.gh_holds.proofs.AllActors.Aside as aside
use Rattle.gh_holds.proofs.AllActors.Aside.{beside_rows, IsBeside, quiet_of, TellsNothing}
use Rattle.gh_holds.proofs.AllActors.Marks.{begins_marked, goes_on_marked, IsOfMarking, marking_rows, stays_marked, words_stay}
use Rattle.gh_holds.proofs.AllActors.Stood.{quiet_stays, Stays}
use Rattle.gh_marked.proofs.OneStep.Sweepers as sweepers
use Rattle.gh_holds.proofs.AllActors.Tied.{is_of_heap}
use Rattle.gh_marked.proofs.OneStep.WorkersSweep as sweeping
use Rattle.gh_lists.specs.Steps as seats

module _ (setup : Setup) (lists : ListsKnown setup)
    (e : Entry Op) (es : List (Entry Op)) (legal : Legal (those setup) (e ∷ es)) (ge : setup.layout.procs ≤ e.actor) where
  abbrev z : Arena
  z = arena setup

  abbrev n : ℕ
  n = acks_of setup.layout

  abbrev at : List (Entry Op) → ℕ → Actor
  at xs a = actors_after z setup.pacing setup.may xs a

  -- what the entry is
  its : seats.Step setup e es
  its = seats.step setup e es lists.known.writes legal (lists.keeps es legal.0)

  one_lead : (xs : List (Entry Op)) (c d : Coordinating) → at xs n ≡ Actor.Leads c → at xs n ≡ Actor.Leads d → c ≡ d
  one_lead xs c d x y = let both : Actor.Leads c ≡ Actor.Leads d = sym x ∙ y in cc

  -- where a cycle is under way nobody sweeps
  module _ (has : HasState setup es) (under : IsUnderWay has.state) where
    pub under_told : has.state.told ≡ None → ⊥
    under_told over = let no : None ≡ Some under.0 = sym over ∙ under.1 in cc

    pub none_before : sweep_of (at es e.actor) ≡ None
    none_before = sweepers.none_under_way lists.known z e.actor has.state under_told (sweep_of (at es e.actor)) (has.sweeps e.actor legal.1.actor)

  -- a worker's step
  module _ (w : worker.Working) (is : at es e.actor ≡ Actor.Marks w) where
    -- it runs no sweep
    worker_marks : worker.sweep_in w ≡ None → IsOfMarking e.ask
    worker_marks none = subst IsOfMarking (sym (sweeping.asked setup lists e es legal w is)) (lists.known.footprints.among marks marking_rows (worker.asks setup.layout w) refl (lists.known.workers.marks_alone setup.layout w none).writes)

    module _ (has : HasState setup es) (under : IsUnderWay has.state) where
      pub worker_none : worker.sweep_in w ≡ None
      worker_none = sym (sweeping.sweeps_before setup lists e es legal w is) ∙ none_before has under

      -- nor does it begin one
      module _ (beside : IsBeside e.ask) where
        abbrev behind : State
        behind = aside.quiet_state setup lists.known e es legal ge has (none_before has under) beside (λ over. absurd (under_told has under over))

        worker_then : sweep_of (at (e ∷ es) e.actor) ≡ None
        worker_then = sweepers.none_under_way lists.known z e.actor behind (under_told has under) (sweep_of (at (e ∷ es) e.actor))
            (sweeping.begins_or_rests setup lists e es legal w is has worker_none behind (aside.quiet_good setup lists.known e es legal ge has (none_before has under) beside (λ over. absurd (under_told has under over)))
            (aside.quiet_rests setup lists.known e es legal ge has (none_before has under) beside (λ over. absurd (under_told has under over))) refl)

  -- where the coordinator stands behind the entry: it marks a cycle still
  pub record MarksStill : Type 0 where
    pub lead : Coordinating
    pub led : IsLed setup (e ∷ es) lead
    pub on : leading.Marks lead.stage

  -- the coordinator's step, as long as the cycle is marked behind it
  module _ (c : Coordinating) (x : seats.LeadsIt setup e es c) (still : MarksStill) where
    goes_is : coord.goes setup.layout c e.found ≡ still.lead
    goes_is = one_lead (e ∷ es) (coord.goes setup.layout c e.found) still.lead x.then still.led

    goes_by : CoordinatorGoes setup.layout c.begun (words setup es) c c.stage (coord.goes setup.layout c e.found)
    goes_by = goes_so setup.layout c.begun (words setup es) c (coord.counted c).marks refl c.stage e.found x.busy x.found

    on_goes : leading.Marks (coord.goes setup.layout c e.found).stage
    on_goes = subst (λ (x : Coordinating). leading.Marks x.stage) (sym goes_is) still.on

    by_goes : CoordinatorGoes setup.layout c.begun (words setup es) c c.stage (coord.goes setup.layout c e.found) → IsOfMarking (coord.asks setup.layout c)
    by_goes (begins b quiet same x) = begins_marked setup.layout c c.stage b
    by_goes (goes_on was quiet same x) = goes_on_marked setup.layout c c.stage was (stays_marked setup.layout (coord.counted c) c.stage e.found on_goes)
    by_goes (leaves off) = absurd (off on_goes)

    lead_marks : IsOfMarking e.ask
    lead_marks = subst IsOfMarking (sym x.asked) (by_goes goes_by)

  -- As long as the cycle is marked behind the entry.
  module _ (still : MarksStill) where
    pub marks_on : (has : HasState setup es) → IsUnderWay has.state → IsOfMarking e.ask
    marks_on has under = by its where
      by : seats.Step setup e es → IsOfMarking e.ask
      by (seats.by_processor m x stays) = absurd (let lt = x.seat in omega (arith, lt, ge))
      by (seats.by_worker w x stays) = worker_marks w x.is (worker_none w x.is has under)
      by (seats.by_lead c x) = lead_marks c x still

    -- the coordinator sweeps nothing while it marks a cycle
    lead_none : (p : CoordStage) → leading.Marks p → sweep_at p ≡ None
    lead_none p marks = grind arith

    pub none_then : (has : HasState setup es) → IsUnderWay has.state → IsBeside e.ask → sweep_of (at (e ∷ es) e.actor) ≡ None
    none_then has under beside = by its where
      by : seats.Step setup e es → sweep_of (at (e ∷ es) e.actor) ≡ None
      by (seats.by_processor m x stays) = absurd (let lt = x.seat in omega (arith, lt, ge))
      by (seats.by_worker w x stays) = worker_then w x.is has under beside
      by (seats.by_lead c x) = ap sweep_of (ap (at (e ∷ es)) x.seat ∙ still.led) ∙ lead_none still.lead.stage still.on

  -- the step from what was known to the next marking, behind which the actor places nothing
  pub record MarksOn (c : Cycle) (s t : Marking) : Type 0 where
    pub known : IsKnown setup c s es
    pub good : MarkingGood c s
    pub good_then : MarkingGood c t
    pub went : Went c e.actor s t
    pub none : (o : ℕ) → t.colour o ≢ Placing e.actor
    pub words_are : t.words ≡ words setup (e ∷ es)

  -- What is known lasts.
  module _ (still : MarksStill) (c : Cycle) (s t : Marking) (step : MarksOn c s t) where
    abbrev k : IsKnown setup c s es
    k = step.known

    marking : IsOfMarking e.ask
    marking = marks_on still k.has k.under_way

    beside : IsBeside e.ask
    beside = lists.known.footprints.among marking_rows beside_rows e.ask refl marking

    over : k.has.state.told ≡ None → TellsNothing e.ask
    over is = absurd (under_told k.has k.under_way is)

    abbrev land : aside.Lands setup lists.known e es legal ge k.has
    land = aside.by_quiet_none setup lists.known e es legal ge k.has (none_before k.has k.under_way) beside over (none_then still k.has k.under_way beside)

    abbrev has_then : HasState setup (e ∷ es)
    has_then = aside.has_then setup lists.known e es legal ge k.has land

    abbrev h : Heap
    h = has_then.state.heap

    same_words : t.words ≡ h.words
    same_words = step.words_are ∙ sym has_then.of_list.words_are

    good_there : Good c.arena (view k.has.state.heap)
    good_there = subst (λ (r : Arena). Good r (view k.has.state.heap)) (sym k.arena_is) k.has.good.heap

    -- no goroutine is of this seat
    not_its : (g : ℕ) → IsOf z e.actor g → ⊥
    not_its g its = let seat = its.1 in let some = lists.limits.procs_fit.0 in let below : g % setup.layout.procs < setup.layout.procs = mod_below g setup.layout.procs (omega (arith, some)) in omega (arith, ge, seat, below)

    together : IsTogether z h t
    together = subst (λ (r : Arena). IsTogether r h t) k.arena_is (lists.known.beside_lasts c e.actor k.has.state.heap s t (Quiet e.ask) good_there step.good (subst (λ (r : Arena). IsTogether r k.has.state.heap s) (sym k.arena_is) k.beside) (quiet_of e.ask beside) refl alone) where
      alone : MarksAlone c e.actor k.has.state.heap h s t
      alone = record {
        went = step.went;
        words_are = same_words;
        fills = λ o is. absurd (step.none o is);
        registers = λ g d runs below. absurd (not_its g (subst (λ (r : Arena). IsOf r e.actor g) k.arena_is runs.of));
        goes_on = λ g runs. absurd (not_its g (subst (λ (r : Arena). IsOf r e.actor g) k.arena_is runs.of));
      }

    ever_then : ever setup (e ∷ es) ≡ ever setup es
    ever_then = ever_stays setup lists.known.points e es legal ge

    -- the cycle that is marked
    abbrev Cycles : List (Entry Op) → Type 0
    Cycles xs = IsToBegin setup xs c.number ⊎ IsInCycle setup xs c.number

    -- and what has become of the heap since it began
    abbrev Since : Type 0
    Since = (x : Cycles (e ∷ es)) × HasGoneOn (began setup (e ∷ es) c.number x) h t × Stays (began_words setup (e ∷ es) c.number x) (words setup (e ∷ es))

    goes_on_so : (v : Ever) → HasGoneOn v k.has.state.heap s → HasGoneOn v h t
    goes_on_so v x = lists.known.gone_on c e.actor k.has.state.heap s t (Quiet e.ask) v good_there step.good (quiet_of e.ask beside) step.went same_words k.beside.words x

    one_then : (d : Coordinating) → IsLed setup (e ∷ es) d → d ≡ still.lead
    one_then d x = one_lead (e ∷ es) d still.lead x still.led

    last_then : (i : IsInCycle setup es c.number) (d : Coordinating) → IsLed setup (e ∷ es) d → d.is_last ≡ true → ever setup (e ∷ es) ≡ ever setup i.begun
    last_then i d led_d is = by (seats.lead_was setup e es its d led_d) where
      by : seats.LeadWas setup e es d → ever setup (e ∷ es) ≡ ever setup i.begun
      by (seats.lead_stayed was) = ever_then ∙ i.last d was is
      by (seats.lead_stepped b x same) = ever_then ∙ i.last b x.is (last_was setup.layout (coord.counted b) b.stage e.found (subst (λ (y : Coordinating). leading.Marks y.stage) (sym (sym same ∙ one_then d led_d)) still.on) (ap (λ (y : Coordinating). y.is_last) (sym same) ∙ is))

    cycle_then : (x : Cycles es) → HasGoneOn (began setup es c.number x) k.has.state.heap s → Stays (began_words setup es c.number x) (words setup es) → Since
    cycle_then (inr i) g so = (inr (record { begun = i.begun; start = inr i.start; begins = i.begins; last = last_then i }), goes_on_so (ever setup i.begun) g, λ n x p. quiet_stays lists.known.footprints e.ask (quiet_of e.ask beside) (words setup es) n x (so n x p))
    cycle_then (inl b) g so = go (e.actor == n) refl where
      gone : HasGoneOn (ever setup (e ∷ es)) h t
      gone = goes_on_so (ever setup (e ∷ es)) (subst (λ (v : Ever). HasGoneOn v k.has.state.heap s) (sym ever_then) g)

      go : (x : Bool) → (e.actor == n) ≡ x → Since
      go true x = (inr (record { begun = e ∷ es; start = inl refl; begins = record { lead = b.lead; led = b.led; by = grind (arith, nat_tests); stage = b.stage; cycle = b.cycle }; last = λ d led_d is. refl }), gone, λ n y p. p)
      go false x = (inl (record { lead = b.lead; led = other setup e es n x ∙ b.led; stage = b.stage; cycle = b.cycle }), gone, λ n y p. p)

    abbrev since : Since
    since = cycle_then k.cycle k.gone_on k.stood

    pub lasts : IsKnown setup c t (e ∷ es)
    lasts = record {
      arena_is = k.arena_is;
      has = has_then;
      under_way = k.under_way;
      beside = together;
      cycle = since.0;
      gone_on = since.1;
      stood = since.2;
      drawn = drawn_then setup lists.known.drawn c e es s t step.good step.went step.words_are (is_of_heap setup lists.known (e ∷ es) has_then c t k.arena_is step.good_then together) k.drawn;
      counts = (lists.known.footprints.leaves marking_rows e.ask k.has.state.heap.words Cell.Tally marking refl ∙ k.counts.0, lists.known.footprints.leaves marking_rows e.ask k.has.state.heap.words Cell.Live marking refl ∙ k.counts.1);
      marks_fit = subst (λ (w : Words). AreWords (mark_words w)) same_words (words_stay lists.known.mark_words c e.actor s t step.went (subst (λ (w : Words). AreWords (mark_words w)) (sym k.beside.words) k.marks_fit));
    }
