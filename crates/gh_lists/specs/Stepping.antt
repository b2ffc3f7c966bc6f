-- What an entry of a legal list is to a processor: a step of its own, on an operation that is begun, or another's; and who is no processor has none begun.
use Rattle.std.proofs.Common.{◌≡◌, ℕ, ◌<◌, ◌≤◌, ◌⊎◌, Bool, true, false, cond, eqb, List, ◌∷◌, Option, Some, None, sym, ap, subst, ◌∙◌, arith, eq-eqb}
use Rattle.std.proofs.lemmas.Bool.{eqb-false}
use Rattle.gh_lists.specs.Vocabulary.{Act, acting, Actor, acts, asks, Begins, Entry, gives, is_busy_at, Kind, Legal, Op, opening_processor, Processor, processor_kind, started, state_of, takes}
use Rattle.gh_lists.specs.Lists.{arena}
use Rattle.gh_lists.specs.Handshake.{actors, those, Setup}
use Rattle.gh_lists.specs.Marking.{actors_after}
use Rattle.gh_lists.specs.Order.{before_step}
use Rattle.gh_lists.specs.LemmaVocabulary.{is_serving}
use Rattle.gh_lists.specs.Resting.{begins_none, rests, runs_are}
use Rattle.gh_lists.specs.Seats.{run_started}

-- what finds no room is a `new`, which has a point
pub not_full : (b : Bool) (o : Op) (x : Act) → acting b o false ≡ Some x → x.full ≡ true → ⊥
not_full b o x e f = grind arith

module _ (setup : Setup) (es : List (Entry Op)) (e : Entry Op) (legal : Legal (those setup) (e ∷ es)) where
  abbrev m : Processor
  m = before_step setup.shapes setup.layout es e

  abbrev everyone : Kind Actor Op
  everyone = actors setup

  begun_is : (a : ℕ) → a < setup.layout.procs → (o : Option Op) → started everyone o (actors_after (arena setup) setup.pacing setup.may es a) ≡ Actor.Runs (started (processor_kind setup.shapes setup.layout) o (state_of (processor_kind setup.shapes setup.layout) a es))
  begun_is a lt o = ap (λ (x : Actor). started everyone o x) (runs_are setup es a lt) ∙ run_started setup o (state_of (processor_kind setup.shapes setup.layout) a es)

  -- who is no processor has no operation begun
  pub record IsNoProcessors : Type 0 where
    pub none : e.begun ≡ None
    pub acts_not : acts setup.layout m e.found ≡ None
    pub gives_not : gives setup.layout m e.found ≡ None
    pub idle : is_serving m.task ≡ false

  pub no_processors : setup.layout.procs ≤ e.actor → IsNoProcessors
  no_processors le =
      let none = begins_none setup e.actor es e.begun le legal.1.begins legal.1.runs in
      let rest : m ≡ opening_processor e.actor = ap (λ (o : Option Op). started (processor_kind setup.shapes setup.layout) o (state_of (processor_kind setup.shapes setup.layout) e.actor es)) none ∙ rests setup es legal.0 e.actor le in
      record {
        none = none;
        acts_not = ap (λ (y : Processor). acts setup.layout y e.found) rest;
        gives_not = ap (λ (y : Processor). gives setup.layout y e.found) rest;
        idle = ap (λ (y : Processor). is_serving y.task) rest;
      }

  -- The processor at a seat.
  module _ (a : ℕ) (lt : a < setup.layout.procs) where
    abbrev own : List (Entry Op) → Processor
    own xs = state_of (processor_kind setup.shapes setup.layout) a xs

    -- the step is its own, on an operation that is begun
    pub record IsItsOwn : Type 0 where
      pub its : e.actor ≡ a
      pub here : eqb e.actor a ≡ true
      pub before : m ≡ started (processor_kind setup.shapes setup.layout) e.begun (own es)
      pub busy : is_busy_at m.task ≡ true
      pub asked : e.ask ≡ asks setup.layout m
      pub rested : (o : Op) → e.begun ≡ Some o → is_busy_at (own es).task ≡ false
      pub after : own (e ∷ es) ≡ takes setup.layout setup.shapes m e.found

    -- or another's
    pub record IsAnothers : Type 0 where
      pub other : e.actor ≡ a → ⊥
      pub apart : eqb e.actor a ≡ false
      pub after : own (e ∷ es) ≡ own es

    pub its_own : e.actor ≡ a → IsItsOwn
    its_own same =
        let here : eqb e.actor a ≡ true = eq-eqb e.actor a same in
        let there : e.actor < setup.layout.procs = omega (arith, same, lt) in
        let before : m ≡ started (processor_kind setup.shapes setup.layout) e.begun (own es) = ap (λ (b : ℕ). started (processor_kind setup.shapes setup.layout) e.begun (state_of (processor_kind setup.shapes setup.layout) b es)) same in
        record {
          its = same;
          here = here;
          before = before;
          busy = sym (ap everyone.busy (begun_is e.actor there e.begun)) ∙ legal.1.runs;
          asked = legal.1.asks ∙ ap everyone.asks (begun_is e.actor there e.begun);
          rested = λ o is. rested same there o is;
          after = ap (λ (b : Bool). cond b (takes setup.layout setup.shapes (started (processor_kind setup.shapes setup.layout) e.begun (own es)) e.found) (own es)) here ∙ ap (λ (y : Processor). takes setup.layout setup.shapes y e.found) (sym before);
        } where
          rested : e.actor ≡ a → e.actor < setup.layout.procs → (o : Op) → e.begun ≡ Some o → is_busy_at (own es).task ≡ false
          rested same there o is =
              let begins = subst (λ (b : Option Op). Begins (those setup) e.actor es b) is legal.1.begins in
              ap (λ (b : ℕ). is_busy_at (state_of (processor_kind setup.shapes setup.layout) b es).task) (sym same) ∙ sym (ap everyone.busy (runs_are setup es e.actor there)) ∙ begins.0

    anothers : eqb e.actor a ≡ false → IsAnothers
    anothers apart = record {
      other = eqb-false e.actor a apart;
      apart = apart;
      after = ap (λ (b : Bool). cond b (takes setup.layout setup.shapes (started (processor_kind setup.shapes setup.layout) e.begun (own es)) e.found) (own es)) apart;
    }

    pub who_steps : IsItsOwn ⊎ IsAnothers
    who_steps = grind (arith, anothers, its_own)
