-- What a processor has begun and was given, once an operation has run to its end.
use Rattle.std.proofs.Common.{◌≡◌, ℕ, Bool, true, false, not, cond, eq-eqb, List, [], ◌∷◌, ◌++◌, Option, Some, None, refl, sym, ap, subst, ◌∙◌, is_some}
use Rattle.gh_run.proofs.Vocabulary.{Answer, asks, begins_by, begins_pointed, begun_in, begun_next, deeds, ends_with_answer, entries_made, Entry, Gave, given_at, given_by, given_is, gives, gives_at, goes, has_left_at, has_point, HeapActor, is_busy_at, is_pointed, Kind, Layout, machine_after, Mutating, Op, option_to_list, Planned, Processor, processor_kind, Runs, runs_after, started, state_of, stays_pointed, takes, takes_at, Task}
use Rattle.gh_base.specs.declared.shape.Shape.{Shape}
use Rattle.gh_mutator.specs.Mutating as mutating
use Rattle.gh_world.proofs.StepFacts.{step_facts}

-- ---- steps of a processor that rests

rests_on : (l : Layout) (shapes : List Shape) (m : Processor) (t : Task) (found : ℕ) → is_busy_at t ≡ false → takes_at l shapes m t found ≡ m
rests_on l shapes m Task.Idle found e = refl
rests_on l shapes m Task.Left found e = refl
rests_on l shapes m _ found e = absurd cc

-- one that has a step to make behind a step had one before it
busy_before : (l : Layout) (m : Mutating) (found : ℕ) → mutating.is_busy (mutating.goes l m found) ≡ true → mutating.is_busy m ≡ true
busy_before l m found busy = go (mutating.is_busy m) refl where
  go : (b : Bool) → mutating.is_busy m ≡ b → mutating.is_busy m ≡ true
  go true e = e
  go false e = let same = ap (λ (n : Processor). is_busy_at n.task) (rests_on l m.shapes m.processor m.processor.task found e) in absurd (let no : true ≡ false = sym busy ∙ same ∙ e in cc)

-- and so had one whose step ends an operation
gives_busy : (l : Layout) (m : Processor) (t : Task) (found : ℕ) (x : Answer) → gives_at l m t found ≡ Some x → is_busy_at t ≡ true
gives_busy l m Task.Idle found x e = absurd cc
gives_busy l m Task.Left found x e = absurd cc
gives_busy l m _ found x e = refl

not_some : (x : Option Answer) → true ≡ not (is_some x) → x ≡ None
not_some None e = refl
not_some (Some a) e = absurd cc

-- a step behind which there is a further one ends nothing
ends_none : (l : Layout) (m : Mutating) (found : ℕ) → mutating.is_busy (mutating.goes l m found) ≡ true → mutating.gives l m found ≡ None
ends_none l m found busy = not_some (mutating.gives l m found) (sym busy ∙ (step_facts l m.shapes m.processor m.processor.task found (busy_before l m found busy)).ends)

answered_so : (x : Option Answer) (a : Answer) → ends_with_answer x ≡ Some (Some a) → x ≡ Some a
answered_so None a e = absurd cc
answered_so (Some b) a e = let same : b ≡ a = cc in ap Some same

-- ---- the entries of an operation

module _ (l : Layout) (a : ℕ) (m : Mutating) (o : Op) (own : List (Entry Op)) where
  abbrev pub Made : List ℕ → List (Entry Op)
  Made ns = entries_made (asks l) (goes l) a (Some o) (Runs (mutating.begins m o)) ns ++ own

  pub begun_more : (founds : List ℕ) (x : Answer) → Gave (goes l) (gives l) (Runs (mutating.begins m o)) founds (Some x) → begun_in (Made founds) ≡ o ∷ begun_in own
  begun_more [] x gave = absurd gave
  begun_more (n ∷ ns) x gave = go n ns where
    go : (n : ℕ) (ns : List ℕ) → begun_in (Made (n ∷ ns)) ≡ o ∷ begun_in own
    go n [] = refl
    go n (k ∷ ks) = go k ks

module _ (p : Planned) (a : ℕ) (m : Mutating) (o : Op) (own : List (Entry Op)) (shapes : m.shapes ≡ p.script.shapes) (state : state_of (processor_kind p.script.shapes p.layout) a own ≡ m.processor) (there : has_left_at m.processor.task ≡ false) where
  abbrev kind : Kind Processor Op
  kind = processor_kind p.script.shapes p.layout

  -- the machine after these steps
  abbrev later : List ℕ → Mutating
  later ns = machine_after (mutating.goes p.layout) (mutating.begins m o) ns

  abbrev made : List ℕ → List (Entry Op)
  made ns = Made p.layout a m o own ns

  abbrev given : List (Entry Op) → List Answer
  given es = given_by kind (deeds p.layout p.script.shapes) a es

  same_shapes : (ns : List ℕ) → (later ns).shapes ≡ p.script.shapes
  same_shapes [] = shapes
  same_shapes (n ∷ ns) = same_shapes ns

  begun_so : (b : Bool) → has_left_at m.processor.task ≡ b → b ≡ false → cond b m.processor (begins_by p.script.shapes m.processor o) ≡ begins_by m.shapes m.processor o
  begun_so true e f = absurd cc
  begun_so false e f = ap (λ (xs : List Shape). begins_by xs m.processor o) (sym shapes)

  -- the processor of each entry before its step
  before : (ns : List ℕ) → started kind (begun_next (Some o) ns) (state_of kind a (made ns)) ≡ (later ns).processor
  before [] = ap (λ (x : Processor). kind.begins x o) state ∙ begun_so (has_left_at m.processor.task) refl there
  before (n ∷ ns) =
      ap (λ (b : Bool). cond b (kind.takes (started kind (begun_next (Some o) ns) (state_of kind a (made ns))) n) (state_of kind a (made ns))) (eq-eqb a a refl)
      ∙ ap (λ (x : Processor). kind.takes x n) (before ns)
      ∙ ap (λ (xs : List Shape). takes p.layout xs (later ns).processor n) (sym (same_shapes ns))

  -- what one entry more is given
  one_given : (n : ℕ) (ns : List ℕ) → given (made (n ∷ ns)) ≡ option_to_list (given_at (later ns).processor.task (mutating.gives p.layout (later ns) n)) ++ given (made ns)
  one_given n ns =
      let e = ap (λ (b : Bool). cond b (option_to_list (given_at (started kind (begun_next (Some o) ns) (state_of kind a (made ns))).task (gives_at p.layout (started kind (begun_next (Some o) ns) (state_of kind a (made ns))) (started kind (begun_next (Some o) ns) (state_of kind a (made ns))).task n)) ++ given (made ns)) (given (made ns))) (eq-eqb a a refl) in
      e ∙ ap (λ (x : Processor). option_to_list (given_at x.task (gives_at p.layout x x.task n)) ++ given (made ns)) (before ns)

  -- while the operation has a further step
  record GoesOn (ns : List ℕ) : Type 0 where
    pointed : is_pointed (later ns).processor.task ≡ has_point o
    none : given (made ns) ≡ given own

  goes_on : (ns : List ℕ) → mutating.is_busy (later ns) ≡ true → GoesOn ns
  goes_on [] busy = record { pointed = begins_pointed m.shapes m.processor o busy; none = refl }
  goes_on (n ∷ ns) busy =
      let was = busy_before p.layout (later ns) n busy in
      let r = goes_on ns was in
      let no = ends_none p.layout (later ns) n busy in
      record {
        pointed = stays_pointed p.layout (later ns).shapes (later ns).processor (later ns).processor.task n was busy ∙ r.pointed;
        none = one_given n ns ∙ ap (λ (x : Option Answer). option_to_list x ++ given (made ns)) (ap (given_at (later ns).processor.task) no ∙ given_is (later ns).processor.task None ∙ same_none (is_pointed (later ns).processor.task)) ∙ r.none;
      }
    where
      same_none : (b : Bool) → cond {A = Option Answer} b None None ≡ None
      same_none true = refl
      same_none false = refl

  -- its entries begin it, and it was given its answer, where it has a point
  pub given_more : (founds : List ℕ) (x : Answer) → Gave (goes p.layout) (gives p.layout) (Runs (mutating.begins m o)) founds (Some x) → given (made founds) ≡ option_to_list (cond (has_point o) (Some x) None) ++ given own
  given_more [] x gave = absurd gave
  given_more (n ∷ ns) x gave =
      let gives_it : mutating.gives p.layout (later ns) n ≡ Some x = answered_so (mutating.gives p.layout (later ns) n) x (subst (λ (y : HeapActor). gives p.layout y n ≡ Some (Some x)) (runs_after p.layout (mutating.begins m o) ns) gave) in
      let r = goes_on ns (gives_busy p.layout (later ns).processor (later ns).processor.task n x gives_it) in
      one_given n ns
      ∙ ap (λ (y : Option Answer). option_to_list y ++ given (made ns)) (ap (given_at (later ns).processor.task) gives_it ∙ given_is (later ns).processor.task (Some x) ∙ ap (λ (b : Bool). cond b (Some x) None) r.pointed)
      ∙ ap (λ (ys : List Answer). option_to_list (cond (has_point o) (Some x) None) ++ ys) r.none
