-- One entry more of a processor or a worker where the world is stopped: it leaves everything as it was.
use Rattle.std.proofs.Common.{◌≡◌, ℕ, ◌<◌, ◌≤◌, ◌==◌, Bool, true, false, cond, ltb, refl, sym, ap, subst, ◌∙◌, arith, inl, inr, List, ◌∷◌, ◌++◌, map, Option, None, Some, eq-eqb}
use Rattle.gh_holds.proofs.Vocabulary.{acks_of, Act, Actor, actors, actors_after, acts, Answer, answered, answered_by, AnsweredDeed, arena, before_step, Begins, begins_nothing, by, Cell, Coordinating, deeds, done_at, effect, ended_in, Entry, ever, first_words, given_at, given_of, gives, is_busy, is_busy_at, IsLed, IsParked, IsSeated, IsSound, Kind, Layout, left_at, Legal, ListsKnown, Load, meaning, nat_tests, Op, opening_processor, option_to_list, PackedWordsAreReadBack, place_of, point_of, Processor, processor_at, processor_kind, rests, rests_on, run_started, RunPhase, runs_are, seated, Setup, Shape, stage_of, started, state_stays, stop_word, Stopped, sweep_of, takes, Task, those, Words, words, Working}
use Rattle.gh_coord.specs.Handshake as leading
use Rattle.gh_lists.specs.Handshake as handshake
use Rattle.gh_holds.proofs.AllActors.Stay.{ChangesNothing, led_by_it, sweeps_same, worker_sweeps_none}
use Rattle.gh_holds.proofs.AllActors.Waiting.{StandsStill, stands_still}

-- one that has left begins nothing
pub left_stays : (shapes : List Shape) (l : Layout) (o : Option Op) (m : Processor) → m.task ≡ Task.Left → started (processor_kind shapes l) o m ≡ m
left_stays shapes l o m is = grind arith

module _ (setup : Setup) where
  abbrev k : Kind Processor Op
  k = processor_kind setup.shapes setup.layout

  abbrev all : Kind Actor Op
  all = actors setup

  abbrev at : List (Entry Op) → ℕ → Actor
  at es a = actors_after (arena setup) setup.pacing setup.may es a

  abbrev first : Words
  first = first_words setup

  -- what the entry leaves is all, and it is no point
  pub record IsStill (e : Entry Op) (es : List (Entry Op)) : Type 0 where
    pub changes : ChangesNothing setup e es
    pub no_point : done_at k (deeds setup.layout setup.shapes) es e ≡ None

  module _ (e : Entry Op) (es : List (Entry Op)) where
    -- so it is of a step that loads, of an actor that has begun nothing, does nothing by it and stays as it was
    pub record LeavesAll : Type 0 where
      pub loads : e.ask ≡ Load Cell.Phase
      pub none_begun : e.begun ≡ None
      pub no_point : done_at k (deeds setup.layout setup.shapes) es e ≡ None
      pub no_answer : (deeds setup.layout setup.shapes).gives (before_step k (deeds setup.layout setup.shapes) es e) e.found ≡ None
      pub own : e.actor < setup.layout.procs → processor_at setup (e ∷ es) e.actor ≡ processor_at setup es e.actor
      pub sweeps : sweep_of (at (e ∷ es) e.actor) ≡ sweep_of (at es e.actor)

    module _ (among : e.actor < acks_of setup.layout) (x : LeavesAll) where
      pub leaves_all : IsStill e es
      leaves_all = record { changes = changes; no_point = x.no_point } where
        answered_before : ℕ → List (AnsweredDeed Act Answer)
        answered_before a = answered_by k (deeds setup.layout setup.shapes) (meaning setup.shapes) a es

        either : {A : Type 0} (b : Bool) (xs : List A) → cond b xs xs ≡ xs
        either true xs = refl
        either false xs = refl

        ends : (a g : ℕ) (b : Bool) → ended_in (cond b (e ∷ by a es) (by a es)) g ≡ ended_in (by a es) g
        ends a g true = ap (λ (o : Option Op). ended_in (record e { begun = o } ∷ by a es) g) x.none_begun
        ends a g false = refl

        same : (a : ℕ) → a < setup.layout.procs → (b : Bool) → (e.actor == a) ≡ b → processor_at setup (e ∷ es) a ≡ processor_at setup es a
        same a lt true y = let is : e.actor ≡ a = grind (arith, nat_tests) in subst (λ (n : ℕ). processor_at setup (e ∷ es) n ≡ processor_at setup es n) is (x.own (subst (λ (n : ℕ). n < setup.layout.procs) (sym is) lt))
        same a lt false y = state_stays setup e es a y

        changes : ChangesNothing setup e es
        changes = record {
          words_are = ap (effect (words setup es)) x.loads;
          ever_is = ap (left_at (meaning setup.shapes) (ever setup es)) x.no_point;
          processors = λ a lt. same a lt (e.actor == a) refl;
          answers = λ a lt. ap (λ (o : Option Act). map (λ (y : AnsweredDeed Act Answer). y.answer) (cond (e.actor == a) (option_to_list (answered (meaning setup.shapes) (ever setup es) o) ++ answered_before a) (answered_before a))) x.no_point ∙ ap (map (λ (y : AnsweredDeed Act Answer). y.answer)) (either (e.actor == a) (answered_before a));
          given = λ a lt. ap (λ (o : Option Answer). cond (e.actor == a) (option_to_list o ++ given_of (arena setup) first a es) (given_of (arena setup) first a es)) x.no_answer ∙ either (e.actor == a) (given_of (arena setup) first a es);
          ended = λ a lt g. ends a g (e.actor == a);
          led = led_by_it setup e es among;
          sweeps = sweeps_same setup e es x.sweeps;
        }

  module _ (back : PackedWordsAreReadBack) (lists : ListsKnown setup) (e : Entry Op) (es : List (Entry Op)) (legal : Legal (those setup) (e ∷ es))
      (c : Coordinating) (phase : RunPhase) (led : IsLed setup es c) (post : leading.post_at c.stage ≡ Stopped phase) (among : e.actor < acks_of setup.layout) where
    abbrev stops : ℕ
    stops = (leading.lead_of c).stops

    moves_nobody : (e.ask ≡ Load Cell.Phase) × (e.found ≡ stop_word stops)
    moves_nobody = let x = (lists.steps e es legal).still (leading.lead_of c) phase (ap place_of led) post among in (x.0, x.1)

    module _ (lt : e.actor < setup.layout.procs) where
      abbrev m : Processor
      m = processor_at setup es e.actor

      abbrev here : at es e.actor ≡ Actor.Runs m
      here = runs_are setup es e.actor lt

      sound : IsSound setup.layout m
      sound = subst (handshake.Sound setup.layout) here ((lists.keeps es legal.0).shakes.all_sound e.actor (omega (arith, among)))

      parked : IsParked stops (stage_of m)
      parked = (lists.keeps es legal.0).processors_wait c phase e.actor m led post among here

      runs : is_busy_at (started k e.begun m).task ≡ true
      runs = sym (ap is_busy (ap (started all e.begun) here ∙ run_started setup e.begun m)) ∙ legal.1.runs

      not_left : m.task ≡ Task.Left → ⊥
      not_left is = grind (arith, left_stays, runs)

      waits : StandsStill setup.layout back stops setup.shapes m
      waits = elim (stands_still setup.layout back stops setup.shapes m sound.place parked) [ inl x ↦ x | inr x ↦ absurd (not_left x) ]

      none_begun : e.begun ≡ None
      none_begun = go e.begun refl where
        go : (o : Option Op) → e.begun ≡ o → e.begun ≡ None
        go None is = is
        go (Some o) is = absurd (let idle = (subst (Begins (those setup) e.actor es) is legal.1.begins).0 in let both : true ≡ false = sym waits.busy ∙ (sym (ap is_busy here) ∙ idle) in cc)

      before : before_step k (deeds setup.layout setup.shapes) es e ≡ m
      before = grind (arith, none_begun)

      own_is : processor_at setup (e ∷ es) e.actor ≡ m
      own_is = rw (eq-eqb e.actor e.actor refl) (ap (λ (x : Processor). takes setup.layout setup.shapes x e.found) before ∙ (ap (takes setup.layout setup.shapes m) moves_nobody.1 ∙ waits.stays))

      by_processor : LeavesAll e es
      by_processor = record {
        loads = moves_nobody.0;
        none_begun = none_begun;
        no_point = ap (λ (x : Processor). (deeds setup.layout setup.shapes).acts x e.found) before ∙ (ap (λ (n : ℕ). point_of (acts setup.layout m n)) moves_nobody.1 ∙ ap point_of waits.no_act);
        no_answer = ap (λ (x : Processor). (deeds setup.layout setup.shapes).gives x e.found) before ∙ (ap (λ (n : ℕ). given_at m.task (gives setup.layout m n)) moves_nobody.1 ∙ waits.no_answer);
        own = λ less. own_is;
        sweeps = ap sweep_of (runs_are setup (e ∷ es) e.actor lt ∙ (ap Actor.Runs own_is ∙ sym here));
      }

    module _ (ge : setup.layout.procs ≤ e.actor) where
      before_rests : before_step k (deeds setup.layout setup.shapes) es e ≡ opening_processor e.actor
      before_rests = rests_on setup e es legal ge (rests setup es legal.0 e.actor ge)

      -- who is neither a processor nor the coordinator is a worker
      works : (w : Working) × (at es e.actor ≡ Actor.Marks w)
      works = go (at es e.actor) refl where
        seat : (y : Actor) → at es e.actor ≡ y → IsSeated setup.layout e.actor y
        seat y is = subst (IsSeated setup.layout e.actor) is (seated setup es e.actor)

        go : (y : Actor) → at es e.actor ≡ y → (w : Working) × (at es e.actor ≡ Actor.Marks w)
        go (Actor.Marks w) is = (w, is)
        go (Actor.Runs y) is = absurd (let less : e.actor < setup.layout.procs = seat (Actor.Runs y) is in omega (arith, less, ge))
        go (Actor.Leads y) is = absurd (let last = seat (Actor.Leads y) is in omega (arith, last, among))

      by_worker : LeavesAll e es
      by_worker = record {
        loads = moves_nobody.0;
        none_begun = begins_nothing setup e es legal ge;
        no_point = ap (λ (x : Processor). (deeds setup.layout setup.shapes).acts x e.found) before_rests;
        no_answer = ap (λ (x : Processor). (deeds setup.layout setup.shapes).gives x e.found) before_rests;
        own = λ less. absurd (omega (arith, less, ge));
        sweeps = worker_sweeps_none setup e es lists legal c phase led post among works.0 works.1;
      }

    pub is_still : IsStill e es
    is_still = leaves_all e es among (go (ltb e.actor setup.layout.procs) refl) where
      go : (b : Bool) → ltb e.actor setup.layout.procs ≡ b → LeavesAll e es
      go true x = by_processor (grind (arith, nat_tests))
      go false x = by_worker (grind (arith, nat_tests))
