-- By one schedule a script's run ends within a budget, or so many turns of it are taken and an actor is not done.
use Rattle.std.proofs.Common.{◌≡◌, ℕ, zero, suc, ◌+◌, ◌≤◌, Bool, true, false, eqb, ltb, List, [], ◌∷◌, length, Option, Some, None, refl, sym, ap, ◌∙◌, arith, inl, inr, ◌⊎◌}
use Rattle.gh_replay.proofs.Vocabulary.{Actor, actor_after, answers_given, Coordinating, EitherOne, Entry, EveryRunIsExplained, IsRun, IsRunSoFar, IsScheduled, Layout, LaysOut, Leads, most_cycles, nat_tests, Op, outcome_by, Plan, Program, reached_in, RunsEndWhole, RunsGoOn, setting_of, spent_after, stands_in, started, turns_of, WellFormed, who}
use Rattle.gh_coord.specs.Listing as coord
use Rattle.gh_replay.proofs.Choosing.{none_left, who_there}
use Rattle.gh_replay.proofs.OneRun.{stands_low}

-- the coordinator is at its seat
record Led (p : Program) (l : Layout) (es : List (Entry Op)) : Type 0 where
  lead : Coordinating
  is : actor_after p l es (l.procs + l.workers) ≡ Leads lead

led : (p : Program) (l : Layout) (es : List (Entry Op)) → Led p l es
led p l [] =
    let above : ltb (l.procs + l.workers) l.procs ≡ false = grind (arith, nat_tests) in
    let same : ltb (l.procs + l.workers) (l.procs + l.workers) ≡ false = grind (arith, nat_tests) in
    record { lead = coord.opening l (l.procs + l.workers) p.settings.gogc p.settings.minheap (most_cycles p); is = rw (above, same) refl }
led p l (e ∷ es) = go (eqb e.actor (l.procs + l.workers)) refl (led p l es) where
  stays : (o : Option Op) (c : Coordinating) → started (setting_of p l).kind o (Leads c) ≡ Leads c
  stays None c = refl
  stays (Some o) c = refl

  go : (b : Bool) → eqb e.actor (l.procs + l.workers) ≡ b → Led p l es → Led p l (e ∷ es)
  go false f h = record { lead = h.lead; is = rw f h.is }
  go true f h = record { lead = coord.goes l h.lead e.found; is = rw f (ap (λ (m : Actor). (setting_of p l).kind.takes (started (setting_of p l).kind e.begun m) e.found) h.is ∙ ap (λ (m : Actor). (setting_of p l).kind.takes m e.found) (stays e.begun h.lead)) }

-- a script's settings have a layout
record HasLayout (p : Program) : Type 0 where
  layout : Layout
  lays_out : LaysOut p layout

layout_for : (p : Program) → WellFormed p → HasLayout p
layout_for p formed =
    let arena = formed.settings.arena in
    let globals = formed.settings.globals in
    let procs = formed.settings.procs in
    let workers = formed.settings.workers in
    let some = formed.some_goroutine in
    let few = formed.few_goroutines in
    record {
      layout = record {
        opened = p.settings.arena;
        pages = p.settings.arena;
        globals = p.settings.globals;
        procs = p.settings.procs;
        workers = p.settings.workers;
        goroutines = length p.goroutines;
        limits = record {
          all_opened = refl;
          pages_fit = (omega arith, omega arith);
          globals_fit = (omega arith, omega arith);
          procs_fit = (omega arith, omega arith);
          workers_fit = (omega arith, omega arith);
          goroutines_fit = (omega arith, omega arith);
        };
      };
      lays_out = record { opened_are = refl; pages_are = refl; globals_are = refl; procs_are = refl; workers_are = refl; goroutines_are = refl };
    }

module _ (on : RunsGoOn) (whole : RunsEndWhole) (p : Program) (l : Layout) (plan : Plan) (formed : WellFormed p) (lays : LaysOut p l) where
  abbrev who_in : List (Entry Op) → Option ℕ
  who_in es = who (reached_in p l es) (stands_in p l plan es)

  -- a whole run of at most so many turns
  record Ends (n : ℕ) : Type 0 where
    turns : List (Entry Op)
    few : length turns ≤ n
    scheduled : IsScheduled p l plan turns
    run : IsRun p l turns

  -- so many turns of the run, and it is the turn of an actor that is not done
  record Goes (n : ℕ) : Type 0 where
    turns : List (Entry Op)
    so_far : IsRunSoFar p l turns
    scheduled : IsScheduled p l plan turns
    long : length turns ≡ n
    who : ℕ
    turn : who_in turns ≡ Some who

  -- whose turn it is, or all are done
  then_on : (n : ℕ) (es : List (Entry Op)) → IsRunSoFar p l es → IsScheduled p l plan es → length es ≡ n → Ends n ⊎ Goes n
  then_on n es r t long = go (who_in es) refl where
    go : (o : Option ℕ) → who_in es ≡ o → Ends n ⊎ Goes n
    go (Some a) e = inr (record { turns = es; so_far = r; scheduled = t; long = long; who = a; turn = e })
    go None e = inl (record { turns = es; few = omega (arith, long); scheduled = t; run = whole p l es formed lays r (λ a lt. none_left (reached_in p l es) (stands_in p l plan es) e a lt) })

  one_more : (n : ℕ) → Goes n → Ends (suc n) ⊎ Goes (suc n)
  one_more n s =
      let there = who_there (reached_in p l s.turns) (stands_in p l plan s.turns) s.who (stands_low p l plan s.turns) s.turn in
      let g = on p l s.turns s.who formed lays s.so_far there.0 there.1 in
      then_on (suc n) (g.e ∷ s.turns) g.more (s.scheduled, s.turn ∙ ap Some (sym g.by)) (omega (arith, s.long))

  either : (n : ℕ) → Ends n ⊎ Goes n
  either zero = then_on 0 [] (record { legal = tt; to_come = turns_of p; turns = λ a lt. refl }) tt refl
  either (suc n) = elim (either n) [
    | inl w ↦ inl (record { turns = w.turns; few = omega (arith, w.few); scheduled = w.scheduled; run = w.run })
    | inr s ↦ one_more n s
  ]

pub either_one : EveryRunIsExplained → RunsGoOn → RunsEndWhole → EitherOne
either_one explained on whole p plan budget formed =
    let h = layout_for p formed in
    elim (either on whole p h.layout plan formed h.lays_out budget) [
      | inl w ↦ let c = led p h.layout w.turns in inl (outcome_by (answers_given p h.layout w.turns) (spent_after p h.layout w.turns) c.lead, record { layout = h.layout; lays_out = h.lays_out; turns = w.turns; few = w.few; scheduled = w.scheduled; explained = explained p h.layout w.turns c.lead formed h.lays_out w.run c.is })
      | inr s ↦ inr (record {
        layout = h.layout;
        lays_out = h.lays_out;
        turns = s.turns;
        so_far = s.so_far;
        scheduled = s.scheduled;
        long = s.long;
        who = s.who;
        there = (who_there (reached_in p h.layout s.turns) (stands_in p h.layout plan s.turns) s.who (stands_low p h.layout plan s.turns) s.turn).0;
        going = (who_there (reached_in p h.layout s.turns) (stands_in p h.layout plan s.turns) s.who (stands_low p h.layout plan s.turns) s.turn).1;
      })
    ]
