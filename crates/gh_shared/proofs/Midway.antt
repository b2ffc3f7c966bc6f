-- An operation whose steps are made while the machine of its processor stays behind: after each of them it stands where the machine would.
use Rattle.std.proofs.Common.{◌≡◌, ℕ, suc, ◌≤◌, true, false, List, [], ◌∷◌, length, refl, sym, ap, ◌∙◌, subst, Option, Some, None, eq-eqb}
use Rattle.gh_shared.proofs.Vocabulary.{Actor, actor_in, Answer, Ask, asks, BeganAsEach, begun_next, by, Carries, ends_with_answer, Entry, entry, gives, goes, has, HasShapes, HeapActor, Layout, machine_actor, machine_after, may_begin_of, MayAsk, Me, Mutating, Op, Planned, ProcessorMay, Ran, RanAtOnce, Runs, SawLegalList, setting, started, state_of, Tells, View}
use Rattle.gh_mutator.specs.Mutating as mutating
use Rattle.gh_table.proofs.Running.{saw_before, saw_legal_list, saw_since}
use Rattle.gh_actor.specs.MachinesAct.{asks_is, begins_is, busy_is, shapes_begun, takes_is}

abbrev pub Seen : Type 0
Seen = Me (Unit {0}) (View Planned Op)

-- an actor with one entry more
own_state : (a : ℕ) (b : Option Op) (r : Ask) (n : ℕ) (p : Planned) (es : List (Entry Op)) → state_of (setting p).kind a (entry a b r n ∷ es) ≡ (setting p).kind.takes (started (setting p).kind b (state_of (setting p).kind a es)) n
own_state a b r n p es = rw (eq-eqb a a refl) refl

module _ (a : ℕ) (o : Op) (m : Mutating) (me : Seen) where
  -- the processor may begin the operation at this seat
  pub record MayStart : Type 0 where
    pub shapes : HasShapes me.0.plan (Runs m)
    pub state : machine_actor (Runs m) ≡ actor_in setting me.0 a
    pub may : ProcessorMay me.0.plan.layout m o
    pub carries : Carries me.0 a
    pub allowed : may_begin_of me.0.plan.script me.0.plan.layout a (by a me.0.log) o ≡ true

  -- It may, and by these steps the operation has come to x, which asks r next, and the seat to this
  pub record Midway (x : Mutating) (me' : Seen) (founds : List ℕ) (r : Ask) : Type 0 where
    pub start : MayStart
    pub ran : Ran (asks me.0.plan.layout) (goes me.0.plan.layout) a (Some o) (Runs (mutating.begins m o)) me (Runs x) me' founds
    pub state : machine_actor (Runs x) ≡ started (setting me'.0.plan).kind (begun_next (Some o) founds) (actor_in setting me'.0 a)
    pub shapes : HasShapes me'.0.plan (Runs x)
    pub slots : me'.1 ≡ me.1
    pub seen : (es : List (Entry Op)) → BeganAsEach me'.0.seen es → BeganAsEach me.0.seen es
    pub next : r ≡ mutating.asks me.0.plan.layout x

module _ {a : ℕ} {o : Op} {m : Mutating} {me : Seen} where
  -- where it begins
  pub starts : {x : Mutating} {r : Ask} → MayStart a o m me → mutating.begins m o ≡ x → r ≡ mutating.asks me.0.plan.layout x → Midway a o m me x me [] r
  starts {r} start to next = subst (λ (y : Mutating). Midway a o m me y me [] r) to (record {
    start = start;
    ran = record { log = refl; plan = refl; actors = refl; machine = refl };
    state = sym (begins_is me.0.plan me.0.plan.layout (Runs m) o start.shapes start.may) ∙ ap (λ (s : Actor). (setting me.0.plan).kind.begins s o) start.state;
    shapes = shapes_begun me.0.plan (Runs m) o start.shapes;
    slots = refl;
    seen = λ es began. began;
    next = next ∙ ap (mutating.asks me.0.plan.layout) (sym to);
  })

  -- it may ask for its first step, which begins it
  pub may_first : {x : Mutating} {r : Ask} → Midway a o m me x me [] r → mutating.is_busy x ≡ true → MayAsk setting me.0 a (Some o) r
  may_first {x} there busy =
      let kind = (setting me.0.plan).kind in record {
        carries = there.start.carries;
        begins = (ap kind.busy (sym there.start.state) ∙ busy_is me.0.plan (Runs m) ∙ there.start.may.idle, there.start.allowed);
        runs = ap kind.busy (sym there.state) ∙ busy_is me.0.plan (Runs x) ∙ busy;
        asks = there.next ∙ sym (asks_is me.0.plan (Runs x)) ∙ ap kind.asks there.state;
      }

  -- and for each further one
  pub may_next : {x : Mutating} {me' : Seen} {n : ℕ} {ns : List ℕ} {r : Ask} → Midway a o m me x me' (n ∷ ns) r → mutating.is_busy x ≡ true → MayAsk setting me'.0 a None r
  may_next {x} {me'} there busy =
      let kind = (setting me'.0.plan).kind in
      let so = ap kind.busy (sym there.state) ∙ busy_is me'.0.plan (Runs x) ∙ busy in record {
        carries = subst (λ (xs : List ℕ). has xs a ≡ true) (sym there.ran.actors) there.start.carries;
        begins = so;
        runs = so;
        asks = there.next ∙ ap (λ (p : Planned). mutating.asks p.layout x) (sym there.ran.plan) ∙ sym (asks_is me'.0.plan (Runs x)) ∙ ap kind.asks there.state;
      }

-- its next step finds n
module _ {a : ℕ} {o : Op} {m : Mutating} {me : Seen} {x : Mutating} {me' : Seen} {founds : List ℕ} {r : Ask} (there : Midway a o m me x me' founds r) {me'' : Seen} {n : ℕ} (tells : Tells setting a (begun_next (Some o) founds) r n me' me'') where
  abbrev l : Layout
  l = me.0.plan.layout

  plan_is : me''.0.plan ≡ me'.0.plan
  plan_is = ap (λ (w : Seen). w.0.plan) tells.view

  saw : SawLegalList setting a me' me''
  saw = saw_legal_list setting a (begun_next (Some o) founds) r n me' me'' tells

  asked : r ≡ asks l (machine_after (goes l) (Runs (mutating.begins m o)) founds)
  asked = there.next ∙ ap (asks l) there.ran.machine

  ran_on : Ran (asks l) (goes l) a (Some o) (Runs (mutating.begins m o)) me (Runs (mutating.goes l x n)) me'' (n ∷ founds)
  ran_on = record {
    log = ap (λ (w : Seen). w.0.log) tells.view ∙ (λ i. entry a (begun_next (Some o) founds) (asked i) n ∷ there.ran.log i);
    plan = plan_is ∙ there.ran.plan;
    actors = ap (λ (w : Seen). w.0.actors) tells.view ∙ there.ran.actors;
    machine = ap (λ (y : HeapActor). goes l y n) there.ran.machine;
  }

  state_on : machine_actor (Runs (mutating.goes l x n)) ≡ actor_in setting me''.0 a
  state_on =
      ap (λ (p : Planned). machine_actor (goes p.layout (Runs x) n)) (sym there.ran.plan)
      ∙ sym (takes_is me'.0.plan (Runs x) n there.shapes)
      ∙ ap (λ (s : Actor). (setting me'.0.plan).kind.takes s n) there.state
      ∙ sym (own_state a (begun_next (Some o) founds) r n me'.0.plan me'.0.log)
      ∙ sym (ap (λ (w : Seen). actor_in setting w.0 a) tells.view)

  shapes_on : HasShapes me''.0.plan (Runs (mutating.goes l x n))
  shapes_on = subst (λ (p : Planned). HasShapes p (Runs (mutating.goes l x n))) (sym plan_is) there.shapes

  slots_on : me''.1 ≡ me.1
  slots_on = ap (λ (w : Seen). w.1) tells.view ∙ there.slots

  -- a step more
  pub goes_on_so : {y : Mutating} {s : Ask} → mutating.goes l x n ≡ y → s ≡ mutating.asks l y → Midway a o m me y me'' (n ∷ founds) s
  goes_on_so {s} to next = subst (λ (z : Mutating). Midway a o m me z me'' (n ∷ founds) s) to (record {
    start = there.start;
    ran = ran_on;
    state = state_on;
    shapes = shapes_on;
    slots = slots_on;
    seen = λ es began. there.seen es (saw_before setting a me' me'' saw es began);
    next = next ∙ ap (mutating.asks l) (sym to);
  })

  -- the last one
  pub ends_at_once : {most : ℕ} {y : Mutating} {given : Answer} → suc (length founds) ≤ most → y ≡ mutating.goes l x n → mutating.gives l x n ≡ Some given → mutating.is_busy y ≡ false → RanAtOnce l a o most (Runs m) me (Runs y) me'' given
  ends_at_once {most} {given} few to gave idle = subst (λ (z : Mutating). RanAtOnce l a o most (Runs m) me (Runs z) me'' given) (sym to) (record {
    founds = n ∷ founds;
    few = few;
    ran = ran_on;
    gave = ap (λ (z : HeapActor). gives l z n) (sym there.ran.machine) ∙ ap ends_with_answer gave;
    saw = saw_since setting a me me' me'' there.seen saw;
    idle = ap mutating.is_busy (sym to) ∙ idle;
    shapes = shapes_on;
    state = state_on;
    slots = slots_on;
  })
