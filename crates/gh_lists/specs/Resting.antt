-- At the seat of a worker or of the coordinator no operation begins: a processor there would rest. So no entry of theirs acts, gives an answer or begins anything; and at a processor's seat the actor is what its own entries make of it.
use Rattle.std.proofs.Common.{◌≡◌, ◌≢◌, ℕ, ◌<◌, ◌≤◌, ◌==◌, Bool, true, false, cond, refl, sym, ap, subst, ◌∙◌, arith, List, [], ◌∷◌, Option, Some, None}
use Rattle.gh_lists.specs.Vocabulary.{Actor, before_step, Begins, by, deeds, Entry, Legal, nat_tests, OnlyPointsChange, Op, opening_processor, Processor, processor_kind, started, state_of}
use Rattle.gh_lists.specs.Lists.{arena, ever}
use Rattle.gh_lists.specs.Handshake.{actors, first_words, is_busy, those, Setup}
use Rattle.gh_lists.specs.LemmaVocabulary.{actors_after, answers_of, given_of}
use Rattle.gh_lists.specs.Seats.{IsSeated, seated}

module _ (setup : Setup) where
  abbrev at : List (Entry Op) → ℕ → Actor
  at es a = actors_after (arena setup) setup.pacing setup.may es a

  -- who is no processor begins nothing
  nothing_begins : (o : Option Op) (x : Actor) → ((m : Processor) → x ≢ Actor.Runs m) → is_busy (started (actors setup) o x) ≡ true →
      (y : Op) → o ≡ Some y → is_busy x ≡ false → ⊥
  nothing_begins o x other runs y e idle = grind arith

  pub begins_none : (a : ℕ) (es : List (Entry Op)) (o : Option Op) → setup.layout.procs ≤ a → Begins (those setup) a es o → is_busy (started (actors setup) o (at es a)) ≡ true → o ≡ None
  begins_none a es None ge begins runs = refl
  begins_none a es (Some y) ge begins runs = absurd (nothing_begins (Some y) (at es a) no_processor runs y refl begins.0) where
    no_processor : (m : Processor) → at es a ≢ Actor.Runs m
    no_processor m is = absurd (let lt : a < setup.layout.procs = subst (IsSeated setup.layout a) is (seated setup es a) in omega (arith, lt, ge))

  module _ (e : Entry Op) (es : List (Entry Op)) (legal : Legal (those setup) (e ∷ es)) (ge : setup.layout.procs ≤ e.actor) where
    pub begins_nothing : e.begun ≡ None
    begins_nothing = grind (arith, begins_none)

    -- the step of a worker or of the coordinator
    pub rests_on : state_of (processor_kind setup.shapes setup.layout) e.actor es ≡ opening_processor e.actor → before_step (processor_kind setup.shapes setup.layout) (deeds setup.layout setup.shapes) es e ≡ opening_processor e.actor
    rests_on is = ap (λ (o : Option Op). started (processor_kind setup.shapes setup.layout) o (state_of (processor_kind setup.shapes setup.layout) e.actor es)) begins_nothing ∙ is

  -- a processor that nobody is rests
  still : (e : Entry Op) (es : List (Entry Op)) → Legal (those setup) (e ∷ es) → (a : ℕ) → setup.layout.procs ≤ a → state_of (processor_kind setup.shapes setup.layout) a es ≡ opening_processor a → state_of (processor_kind setup.shapes setup.layout) a (e ∷ es) ≡ opening_processor a
  still e es legal a ge before = go (e.actor == a) refl where
    go : (b : Bool) → (e.actor == a) ≡ b → cond b ((processor_kind setup.shapes setup.layout).takes (started (processor_kind setup.shapes setup.layout) e.begun (state_of (processor_kind setup.shapes setup.layout) a es)) e.found) (state_of (processor_kind setup.shapes setup.layout) a es) ≡ opening_processor a
    go false x = before
    go true x =
        let same : e.actor ≡ a = grind (arith, nat_tests) in
        let none : e.begun ≡ None = begins_nothing e es legal (subst (λ (y : ℕ). setup.layout.procs ≤ y) (sym same) ge) in
        ap (λ (o : Option Op). (processor_kind setup.shapes setup.layout).takes (started (processor_kind setup.shapes setup.layout) o (state_of (processor_kind setup.shapes setup.layout) a es)) e.found) none ∙ ap (λ (m : Processor). (processor_kind setup.shapes setup.layout).takes m e.found) before

  pub rests : (es : List (Entry Op)) → Legal (those setup) es → (a : ℕ) → setup.layout.procs ≤ a → state_of (processor_kind setup.shapes setup.layout) a es ≡ opening_processor a
  rests [] legal a ge = refl
  rests (e ∷ es) legal a ge = still e es legal a ge (rests es legal.0 a ge)

  -- so the heap that never frees stays where another steps than a processor
  pub ever_stays : OnlyPointsChange → (e : Entry Op) (es : List (Entry Op)) → Legal (those setup) (e ∷ es) → setup.layout.procs ≤ e.actor → ever setup (e ∷ es) ≡ ever setup es
  ever_stays points e es legal ge = grind (arith, rests, rests_on)

  -- What the entries of others leave of what an actor's own say.
  module _ (e : Entry Op) (es : List (Entry Op)) (a : ℕ) (other : (e.actor == a) ≡ false) where
    pub answers_stay : answers_of (arena setup) (first_words setup) a (e ∷ es) ≡ answers_of (arena setup) (first_words setup) a es
    answers_stay = rw other refl

    pub given_stay : given_of (arena setup) (first_words setup) a (e ∷ es) ≡ given_of (arena setup) (first_words setup) a es
    given_stay = rw other refl

    pub state_stays : state_of (processor_kind setup.shapes setup.layout) a (e ∷ es) ≡ state_of (processor_kind setup.shapes setup.layout) a es
    state_stays = rw other refl

    pub own_stay : by a (e ∷ es) ≡ by a es
    own_stay = rw other refl

  -- At a processor's seat.
  runs_first : (a : ℕ) → a < setup.layout.procs → at [] a ≡ Actor.Runs (opening_processor a)
  runs_first a lt = grind arith

  runs_on : (e : Entry Op) (es : List (Entry Op)) (a : ℕ) → at es a ≡ Actor.Runs (state_of (processor_kind setup.shapes setup.layout) a es) → at (e ∷ es) a ≡ Actor.Runs (state_of (processor_kind setup.shapes setup.layout) a (e ∷ es))
  runs_on e es a is = grind arith

  pub runs_are : (es : List (Entry Op)) (a : ℕ) → a < setup.layout.procs → at es a ≡ Actor.Runs (state_of (processor_kind setup.shapes setup.layout) a es)
  runs_are [] a lt = runs_first a lt
  runs_are (e ∷ es) a lt = runs_on e es a (runs_are es a lt)

  pub run_is : (es : List (Entry Op)) (a : ℕ) (m : Processor) → a < setup.layout.procs → at es a ≡ Actor.Runs m → state_of (processor_kind setup.shapes setup.layout) a es ≡ m
  run_is es a m lt is = grind (arith, runs_are)
