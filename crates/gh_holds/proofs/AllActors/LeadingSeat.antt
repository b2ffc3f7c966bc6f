-- The entry of the coordinator: which step it is, where it leads, and what of the processors it leaves; and a world that is stopped, in which nobody holds anything.
use Rattle.std.proofs.Common.{◌≡◌, ℕ, ◌<◌, ◌≤◌, Bool, true, false, ltb, refl, sym, ap, subst, ◌∙◌, arith, List, ◌∷◌, None}
use Rattle.gh_holds.proofs.Vocabulary.{acks_of, Actor, actors, actors_after, Arena, arena, Coordinating, CoordStage, Entry, Heap, is_busy, IsHeapOf, IsLed, IsParked, IsSeated, IsStepIn, lead_started, leads, Legal, ListsKnown, nat_tests, Op, Polling, processor_at, Right, RunPhase, runs_are, seated, seats_of, Setup, stage_at, stage_of, started, Stopped, sweep_of, Task, those, uncounted, view}
use Rattle.gh_coord.specs.Handshake as leading
use Rattle.gh_coord.specs.Listing as coord
use Rattle.gh_mutator.specs.Sweeping as mutator
use Rattle.gh_worker.specs.Listing as worker
use Rattle.gh_lists.specs.Handshake.{asks}

-- nobody has the lock, holds a span, lays one out or frees the pages of one
pub record IsStill (h : Heap) : Type 0 where
  pub unlocked : (a : ℕ) → h.locked a ≡ false
  pub none_held : (a p : ℕ) → h.holds a p ≡ false
  pub none_laid : (a : ℕ) → h.laying a ≡ None
  pub none_freed : (a : ℕ) → h.freeing a ≡ None

parked_at : (p : Polling) (stops : ℕ) (q : Task) → IsParked stops (stage_at p q) → uncounted q ≡ 0
parked_at p stops q parked = grind arith

parked_sweeps_none : (p : Polling) (stops : ℕ) (q : Task) → IsParked stops (stage_at p q) → mutator.sweep_at q ≡ None
parked_sweeps_none p stops q parked = grind arith

lead_sweeps_none : (p : CoordStage) (phase : RunPhase) → leading.post_at p ≡ Stopped phase → coord.sweep_at p ≡ None
lead_sweeps_none p phase is = grind arith

-- the newest entry is of the coordinator, who was this before it
pub record ByLead (setup : Setup) (e : Entry Op) (es : List (Entry Op)) : Type 0 where
  pub legal : Legal (those setup) (e ∷ es)
  pub lead : Coordinating
  pub led : IsLed setup es lead
  pub seat : e.actor ≡ acks_of setup.layout

-- a step of the coordinator is such an entry
abbrev pub by_step : (setup : Setup) (at : CoordStage → Type 0) (k : ℕ) (e : Entry Op) (es : List (Entry Op)) → Legal (those setup) (e ∷ es) → IsStepIn setup at k e es → ByLead setup e es
by_step setup at k e es legal x = record { legal = legal; lead = x.lead; led = x.led; seat = x.by }

module _ (setup : Setup) where
  abbrev at : List (Entry Op) → ℕ → Actor
  at es a = actors_after (arena setup) setup.pacing setup.may es a

  abbrev Led : List (Entry Op) → Coordinating → Type 0
  Led es c = IsLed setup es c

  module _ (lists : ListsKnown setup) where
    abbrev z : Arena
    z = arena setup

    -- Where the world is stopped.
    module _ (es : List (Entry Op)) (legal : Legal (those setup) es) (c : Coordinating) (led : Led es c) (phase : RunPhase) (post : leading.post_at c.stage ≡ Stopped phase) where
      pub parked : (a : ℕ) → a < setup.layout.procs → IsParked (leading.lead_of c).stops (stage_of (processor_at setup es a))
      parked a lt = (lists.keeps es legal).processors_wait c phase a (processor_at setup es a) led post (omega (arith, lt)) (runs_are setup es a lt)

      pub owes_nothing : (a : ℕ) → a < setup.layout.procs → uncounted (processor_at setup es a).task ≡ 0
      owes_nothing a lt = grind (arith, parked, parked_at)

      -- nobody sweeps
      pub stopped_sweeps_none : (b : ℕ) → b < seats_of setup.layout → sweep_of (at es b) ≡ None
      stopped_sweeps_none b lt = go (at es b) refl where
        seat_of : (q : Actor) → at es b ≡ q → IsSeated setup.layout b q
        seat_of q i = subst (IsSeated setup.layout b) i (seated setup es b)

        go : (q : Actor) → at es b ≡ q → sweep_of (at es b) ≡ None
        go (Actor.Runs m) i =
            let less : b < setup.layout.procs = seat_of (Actor.Runs m) i in
            ap sweep_of i ∙ parked_sweeps_none m.poll _ m.task ((lists.keeps es legal).processors_wait c phase b m led post (omega (arith, less)) i)
        go (Actor.Marks w) i =
            let waits = (lists.keeps es legal).workers_wait c phase b w led post (seat_of (Actor.Marks w) i).1 i in
            ap sweep_of i ∙ ap worker.sweep_at waits.is_at
        go (Actor.Leads d) i =
            let least = seat_of (Actor.Leads d) i in
            let same : b ≡ acks_of setup.layout = omega (arith, least, lt) in
            ap sweep_of (ap (at es) same ∙ led) ∙ lead_sweeps_none c.stage phase post

      module _ (h : Heap) (of : IsHeapOf setup es h) where
        has_nothing : (a : ℕ) → Right a (view h) false (λ p. false) None
        has_nothing a = go (ltb a setup.layout.procs) refl where
          go : (b : Bool) → ltb a setup.layout.procs ≡ b → Right a (view h) false (λ p. false) None
          go true x = let lt : a < setup.layout.procs = grind (arith, nat_tests) in (lists.known.runs.parked z a (view h) _ _ _ (parked a lt) (of.processors a lt).fine).0
          go false x = of.others a (grind (arith, nat_tests))

        pub is_still : IsStill h
        is_still = record {
          unlocked = λ a. (has_nothing a).locked;
          none_held = λ a p. (has_nothing a).holds p;
          none_laid = λ a. (has_nothing a).laying;
          none_freed = λ a. (has_nothing a).freeing;
        }

    -- The entry.
    module _ (e : Entry Op) (es : List (Entry Op)) (by : ByLead setup e es) where
      pub from : setup.layout.procs ≤ e.actor
      from = let seat = by.seat in omega (arith, seat)

      led_there : at es e.actor ≡ Actor.Leads by.lead
      led_there = ap (at es) by.seat ∙ by.led

      begun_is : started (actors setup) e.begun (at es e.actor) ≡ Actor.Leads by.lead
      begun_is = ap (started (actors setup) e.begun) led_there ∙ lead_started setup e.begun by.lead

      pub busy : coord.is_busy by.lead.stage ≡ true
      busy = sym (ap is_busy begun_is) ∙ by.legal.1.runs

      pub asked : e.ask ≡ coord.asks setup.layout by.lead
      asked = by.legal.1.asks ∙ ap (asks setup.layout) begun_is

      pub led_then : Led (e ∷ es) (coord.goes setup.layout by.lead e.found)
      led_then = sym (ap (at (e ∷ es)) by.seat) ∙ leads setup e es by.lead led_there

      -- at this stage
      pub asked_at : (p : CoordStage) → by.lead.stage ≡ p → e.ask ≡ coord.asks_at setup.layout by.lead p
      asked_at p is = asked ∙ ap (coord.asks_at setup.layout by.lead) is

      pub goes_at : (p : CoordStage) → by.lead.stage ≡ p → coord.goes setup.layout by.lead e.found ≡ coord.goes_at setup.layout (coord.counted by.lead) p e.found
      goes_at p is = ap (λ (q : CoordStage). coord.goes_at setup.layout (coord.counted by.lead) q e.found) is

      -- the sweep that it runs, before and behind the step
      pub sweeps_before : (p : CoordStage) → by.lead.stage ≡ p → sweep_of (at es e.actor) ≡ coord.sweep_at p
      sweeps_before p is = ap sweep_of led_there ∙ ap coord.sweep_at is

      pub sweeps_then : (p : CoordStage) → by.lead.stage ≡ p → sweep_of (at (e ∷ es) e.actor) ≡ coord.sweep_in (coord.goes_at setup.layout (coord.counted by.lead) p e.found)
      sweeps_then p is = ap sweep_of (leads setup e es by.lead led_there) ∙ ap coord.sweep_in (goes_at p is)
