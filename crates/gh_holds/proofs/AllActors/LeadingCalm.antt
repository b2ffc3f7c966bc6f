-- The coordinator between two cycles, and while it opens one: what holds behind each of its steps, up to the store of the phase of marking.
use Rattle.std.proofs.Common.{◌≡◌, ℕ, ◌+◌, ◌<◌, ◌≤◌, ◌==◌, Bool, true, false, cond, ltb, refl, sym, ap, subst, ◌∙◌, arith, List, ◌∷◌, Option, Some, None}
use Rattle.gh_holds.proofs.Vocabulary.{actors_after, ahead_at, Arena, arena, AreSwept, Ask, Cell, Coordinating, CoordStage, effect, Entry, GONE, HasCleared, HasCursor, HoldsAt, IsInSweep, IsLed, IsOpening, IsQuiet, IsReady, Legal, ListsKnown, LoadAck, LoadWant, NobodyMarks, Op, Open, opened, Opens, OpenStage, part_of, RunPhase, seats_of, SeatSweepsNothing, Setup, State, Stop, Stopped, sweep_of, those, Words, words}
use Rattle.gh_coord.specs.Listing as coord
use Rattle.gh_coord.specs.Opening as opens_by
use Rattle.gh_coord.specs.Stopping as stop
use Rattle.gh_coord.specs.Handshake as leading
use Rattle.gh_holds.proofs.AllActors.Aside as aside_of
use Rattle.gh_holds.proofs.AllActors.Aside.{aside_rows, beside_rows, IsAside, Lands, telling_rows, TellsNothing}
use Rattle.gh_holds.proofs.AllActors.LeadingAside.{NotSweeps, quiet_on}
use Rattle.gh_holds.proofs.AllActors.LeadingSeat.{asked_at, ByLead, from, led_then, goes_at as goes_by, stopped_sweeps_none, sweeps_before}

-- each request of an opening leaves the cursor, once it is cleared
opens_cursor : (o : opens_by.CycleOpening) (p : OpenStage) (w : Words) → HasCursor (w Cell.Gcur) p → HasCursor (effect w (opens_by.asks_at o p) Cell.Gcur) (opens_by.behind p)
opens_cursor o p w h = grind arith

-- and the counts of the last sweep
opens_counts : (o : opens_by.CycleOpening) (p : OpenStage) (w : Words) → HasCleared (w Cell.Tally) (w Cell.Live) p → HasCleared (effect w (opens_by.asks_at o p) Cell.Tally) (effect w (opens_by.asks_at o p) Cell.Live) (opens_by.behind p)
opens_counts o p w h = grind arith

-- who rests does so still where a cycle is opened
rests_opened : (a : ℕ) (s : State) → SeatSweepsNothing a s → SeatSweepsNothing a (opened s)
rests_opened a s r = record { none = r.none; told = r.told }

module _ (setup : Setup) (lists : ListsKnown setup) where
  abbrev z : Arena
  z = arena setup

  -- In a world that is stopped for it, a cycle is ready to be opened, with the next number.
  module _ (es : List (Entry Op)) (legal : Legal (those setup) es) (c d : Coordinating) (led : IsLed setup es d) (post : leading.post_at d.stage ≡ Stopped RunPhase.Off) (later : d.begun ≡ c.begun + 1) (q : IsQuiet setup es c) where
    all_swept : AreSwept q.has.state
    all_swept = lists.known.walkers.all z q.has.state q.has.good q.passed

    opens_so : Opens z q.has.state
    opens_so = lists.known.cycles_open z q.has.state q.has.good q.over all_swept

    sweeps_none : (b : ℕ) → b < seats_of setup.layout → IsInSweep b (opened q.has.state) (sweep_of (actors_after z setup.pacing setup.may es b))
    sweeps_none b lt =
        let none : sweep_of (actors_after z setup.pacing setup.may es b) ≡ None = stopped_sweeps_none setup lists es legal d led RunPhase.Off post b lt in
        subst (IsInSweep b (opened q.has.state)) (sym none) (rests_opened b q.has.state (subst (IsInSweep b q.has.state) none (q.has.sweeps b lt)))

    pub ready : IsReady setup es d
    ready = record {
      has = record { state = opened q.has.state; of_list = q.has.of_list; good = opens_so.good; placing = q.has.placing; others_place = q.has.others_place; sweeps = sweeps_none };
      under_way = (record { tally = q.has.state.heap.words Cell.Tally; live = q.has.state.heap.words Cell.Live }, refl);
      marks = opens_so.marks;
      nobody = subst (λ (n : ℕ). NobodyMarks setup es n q.has.state.heap.words) (sym later) q.nobody;
    }

  -- The entry.
  module _ (e : Entry Op) (es : List (Entry Op)) (by : ByLead setup e es) where
    abbrev u : Coordinating
    u = coord.counted by.lead

    abbrev To : Coordinating → Type 0
    To d = HoldsAt setup (e ∷ es) d d.stage

    ge : setup.layout.procs ≤ e.actor
    ge = from setup lists e es by

    asks_so : (p : CoordStage) → by.lead.stage ≡ p → e.ask ≡ coord.asks_at setup.layout by.lead p
    asks_so p is = asked_at setup lists e es by p is

    -- between two cycles
    still_quiet : (p : CoordStage) → by.lead.stage ≡ p → NotSweeps p → TellsNothing (coord.asks_at setup.layout by.lead p) → (d : Coordinating) → d.begun ≡ by.lead.begun → IsQuiet setup es by.lead → IsQuiet setup (e ∷ es) d
    still_quiet p is still tells d same q = quiet_on setup lists e es by (subst NotSweeps (sym is) still) (subst TellsNothing (sym (asks_so p is)) tells) (by.lead.begun + 1) setup.layout.pages q (d.begun + 1) (ap (λ (n : ℕ). n + 1) same)

    pub acks : (i : ℕ) → by.lead.stage ≡ LoadAck i → IsQuiet setup es by.lead → To (coord.goes_at setup.layout u (LoadAck i) e.found)
    acks i is q = go (e.found == GONE) (ltb (i + 1) setup.layout.procs) where
      so : IsQuiet setup (e ∷ es) by.lead
      so = still_quiet (LoadAck i) is tt refl by.lead refl q

      go : (b f : Bool) → To (cond b (cond f (coord.at_stage u (LoadAck (i + 1))) (coord.stops_world (record u { is_last = true }))) (coord.at_stage u LoadWant))
      go true true = so
      go true false = so
      go false f = so

    pub wants : by.lead.stage ≡ LoadWant → IsQuiet setup es by.lead → To (coord.goes_at setup.layout u LoadWant e.found)
    wants is q = go (e.found == 0) where
      so : IsQuiet setup (e ∷ es) by.lead
      so = still_quiet LoadWant is tt refl by.lead refl q

      go : (b : Bool) → To (cond b (coord.at_stage u (LoadAck 0)) (coord.stops_world u))
      go true = so
      go false = so

    -- the number of the cycle that is to be opened
    module _ (st : stop.Stopping) (is : by.lead.stage ≡ Stop st) where
      same_swept : words setup (e ∷ es) Cell.Swept ≡ words setup es Cell.Swept
      same_swept = grind arith

      was_number : by.lead.begun ≡ words setup es Cell.Swept + 0
      was_number = (subst (λ (p : CoordStage). by.lead.begun ≡ words setup es Cell.Swept + (ahead_at (part_of p)).numbered) is (lists.counts es by.lead by.legal.0 by.led).number)

      module _ (d : Coordinating) (work : ℕ) (goal : Option ℕ) (led_d : IsLed setup (e ∷ es) d) (at : d.stage ≡ Open (opens_by.opening u.stops (coord.next_cycle u.begun) work goal)) where
        pub next_number : d.begun ≡ by.lead.begun + 1
        next_number =
            let now : d.begun ≡ words setup (e ∷ es) Cell.Swept + 1 = subst (λ (p : CoordStage). d.begun ≡ words setup (e ∷ es) Cell.Swept + (ahead_at (part_of p)).numbered) at (lists.counts (e ∷ es) d by.legal led_d).number in
            omega (arith, now, was_number, same_swept)

      pub stops : IsQuiet setup es by.lead → To (coord.goes_at setup.layout u (Stop st) e.found)
      stops q = go (stop.given (stop.goes setup.layout st e.found)) refl where
        quiet_then : IsQuiet setup (e ∷ es) by.lead
        quiet_then = still_quiet (Stop st) is tt (lists.known.footprints.among stop.writes telling_rows (stop.asks st) refl ((lists.known.coordinator_parts setup.layout).stop.writes st)) by.lead refl q

        go : (out : Option (Unit {0})) → stop.given (stop.goes setup.layout st e.found) ≡ out → To (coord.after_stop setup.layout (coord.at_stage u (Stop (stop.goes setup.layout st e.found))) out)
        go None x = quiet_then
        go (Some y) x =
            let d_is : coord.goes setup.layout by.lead e.found ≡ coord.opens setup.layout (coord.at_stage u (Stop (stop.goes setup.layout st e.found))) = goes_by setup lists e es by (Stop st) is ∙ ap (coord.after_stop setup.layout (coord.at_stage u (Stop (stop.goes setup.layout st e.found)))) x in
            let led_d : IsLed setup (e ∷ es) (coord.opens setup.layout (coord.at_stage u (Stop (stop.goes setup.layout st e.found)))) = subst (IsLed setup (e ∷ es)) d_is (led_then setup lists e es by) in
            (ready (e ∷ es) by.legal by.lead _ led_d refl (next_number _ _ _ led_d refl) quiet_then, tt, tt)

    -- while a cycle is opened
    module _ (o : opens_by.CycleOpening) (is : by.lead.stage ≡ Open o) (r : IsOpening setup es by.lead o.stage) where
      aside : IsAside e.ask
      aside = subst IsAside (sym (asks_so (Open o) is)) (lists.known.footprints.among opens_by.writes aside_rows (opens_by.asks o) refl ((lists.known.coordinator_parts setup.layout).opens.writes o))

      under : r.0.has.state.told ≡ None → TellsNothing e.ask
      under over = absurd (let no : None ≡ Some r.0.under_way.0 = sym over ∙ r.0.under_way.1 in cc)

      before : sweep_of (actors_after z setup.pacing setup.may es e.actor) ≡ None
      before = sweeps_before setup lists e es by (Open o) is

      behind : sweep_of (actors_after z setup.pacing setup.may (e ∷ es) e.actor) ≡ None
      behind = grind arith

      abbrev land : Lands setup lists.known e es by.legal ge r.0.has
      land = aside_of.by_quiet_none setup lists.known e es by.legal ge r.0.has before (lists.known.footprints.among aside_rows beside_rows e.ask refl aside) under behind

      ready_then : (d : Coordinating) → d.begun ≡ by.lead.begun → IsReady setup (e ∷ es) d
      ready_then d same = record {
        has = aside_of.has_then setup lists.known e es by.legal ge r.0.has land;
        under_way = r.0.under_way;
        marks = λ i. lists.known.footprints.leaves aside_rows e.ask r.0.has.state.heap.words (Cell.Mark i) aside refl ∙ r.0.marks i;
        nobody = aside_of.nobody_marks setup lists.known e es by.legal ge r.0.has land (λ b. lists.known.footprints.leaves aside_rows e.ask r.0.has.state.heap.words (Cell.Buffer b) aside refl) by.lead.begun d.begun same r.0.nobody;
      }

      so : (d : Coordinating) → d.begun ≡ by.lead.begun → IsOpening setup (e ∷ es) d (opens_by.behind o.stage)
      so d same = (
        ready_then d same,
        subst (λ (q : Ask). HasCursor (effect (words setup es) q Cell.Gcur) (opens_by.behind o.stage)) (sym (asks_so (Open o) is)) (opens_cursor o o.stage (words setup es) r.1),
        subst (λ (q : Ask). HasCleared (effect (words setup es) q Cell.Tally) (effect (words setup es) q Cell.Live) (opens_by.behind o.stage)) (sym (asks_so (Open o) is)) (opens_counts o o.stage (words setup es) r.2),
      )

      there : (p : OpenStage) → o.stage ≡ p → (d : Coordinating) → d.begun ≡ by.lead.begun → IsOpening setup (e ∷ es) d (opens_by.behind p)
      there p x d same = subst (λ (y : OpenStage). IsOpening setup (e ∷ es) d (opens_by.behind y)) x (so d same)

      by_stage : (p : OpenStage) → o.stage ≡ p → To (coord.after_open (coord.at_stage u (Open (opens_by.goes_at o p e.found))) (opens_by.given_at (opens_by.behind p)))
      by_stage OpenStage.StorePhase x = tt
      by_stage OpenStage.Ended x = tt
      by_stage _ x = there _ x _ refl

      by_any : (p : OpenStage) → o.stage ≡ p → To (coord.goes_at setup.layout u (Open o) e.found)
      by_any p x = grind (arith, behind, by_stage)

      pub opens : To (coord.goes_at setup.layout u (Open o) e.found)
      opens = by_any o.stage refl
