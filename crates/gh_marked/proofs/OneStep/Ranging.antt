-- An operation that is still to act is one of those that may begin: its goroutine, registers and global are there. So the heap that never frees stays bounded.
use Rattle.std.proofs.Common.{◌≡◌, ℕ, ◌<◌, ◌⊎◌, ◌==◌, Bool, true, false, cond, refl, sym, ap, subst, ◌∙◌, arith, List, [], ◌∷◌, length, Option, Some, None, eq-eqb}
use Rattle.gh_marked.proofs.Vocabulary.{Act, acted, Actor, actors, acts, Answer, answer_at, answer_of, Arena, arena, Begins, by, deeds, DeedsFit, Entry, Ever, Given, has_point, in_range, is_busy, is_busy_at, IsBounded, IsInRange, Kind, Known, Legal, may_of, may_parts, nat_tests, Op, point_of, Processor, processor_at, processor_kind, run_started, runs_are, setup_for, started, state_of, state_stays, takes, those, with_point}

module _ (z : Arena) where
  abbrev InRange : Op → Type 0
  InRange o = in_range z.layout.goroutines z.layout.globals (length z.shapes) o ≡ true

  pub op_range : (o : Op) → InRange o → IsInRange z o
  op_range o is = grind (arith, nat_tests)

module _ (given : Given) (known : Known) where
  abbrev may : ℕ → List (Entry Op) → Op → Bool
  may = may_of given.shapes given.layout given.counts

  abbrev z : Arena
  z = arena (setup_for given)

  abbrev k : Kind Processor Op
  k = processor_kind given.shapes given.layout

  abbrev all : Kind Actor Op
  all = actors (setup_for given)

  fit : DeedsFit k (deeds given.layout given.shapes)
  fit = known.fit given.shapes given.layout

  -- what is still to act at a processor is in range
  abbrev IsRanged : Processor → Type 0
  IsRanged m = (o : Op) → (deeds given.layout given.shapes).unacted m ≡ Some o → IsInRange z o

  module _ (e : Entry Op) (es : List (Entry Op)) (legal : Legal (those (setup_for given)) (e ∷ es)) (lt : e.actor < given.layout.procs) where
    abbrev m : Processor
    m = processor_at (setup_for given) es e.actor

    abbrev now : Processor
    now = started k e.begun m

    here : state_of all e.actor es ≡ Actor.Runs m
    here = runs_are (setup_for given) es e.actor lt

    pub busy_now : is_busy_at now.task ≡ true
    busy_now = sym (ap is_busy (ap (started all e.begun) here ∙ run_started (setup_for given) e.begun m)) ∙ legal.1.runs

    -- where an operation begins
    pub record BeginsSo (o : Op) : Type 0 where
      pub idle : is_busy_at m.task ≡ false
      pub may_now : may e.actor (by e.actor es) o ≡ true

    pub begins_so : (o : Op) → e.begun ≡ Some o → BeginsSo o
    begins_so o is =
        let b = subst (λ (x : Option Op). Begins (those (setup_for given)) e.actor es x) is legal.1.begins in
        record { idle = sym (ap is_busy here) ∙ b.0; may_now = b.1 }

    pub unacted_begun : (o : Op) → e.begun ≡ Some o → (deeds given.layout given.shapes).unacted now ≡ with_point (deeds given.layout given.shapes) (Some o)
    unacted_begun o is = grind (arith, begins_so, busy_now, fit)

    pub ranged_now : IsRanged m → IsRanged now
    ranged_now was o is = go e.begun refl where
      go : (b : Option Op) → e.begun ≡ b → IsInRange z o
      go None none = was o (sym (ap (λ (x : Option Op). (deeds given.layout given.shapes).unacted (started k x m)) none) ∙ is)
      go (Some p) some = by_point (has_point p) refl (sym (unacted_begun p some) ∙ is) where
        by_point : (b : Bool) → has_point p ≡ b → cond (has_point p) (Some p) None ≡ Some o → IsInRange z o
        by_point true x same =
            let both_are : Some p ≡ Some o = sym (ap (λ (c : Bool). cond c (Some p) None) x) ∙ same in
            let one : p ≡ o = cc in
            subst (IsInRange z) one (op_range z p (may_parts z given.counts e.actor (state_of k e.actor (by e.actor es)) (by e.actor es) p (begins_so p some).may_now).range)
        by_point false x same = absurd (let no : None ≡ Some o = sym (ap (λ (c : Bool). cond c (Some p) None) x) ∙ same in cc)

    ranged_then : IsRanged m → IsRanged (takes given.layout given.shapes now e.found)
    ranged_then was o is = go ((deeds given.layout given.shapes).acts now e.found) refl where
      go : (x : Option Act) → (deeds given.layout given.shapes).acts now e.found ≡ x → IsInRange z o
      go None none = ranged_now was o (sym (fit.goes_on now e.found busy_now none) ∙ is)
      go (Some x) some = absurd (let no : None ≡ Some o = sym (fit.acts_once now e.found x busy_now some) ∙ is in cc)

  one_more : (e : Entry Op) (es : List (Entry Op)) → Legal (those (setup_for given)) (e ∷ es) → (a : ℕ) → a < given.layout.procs → IsRanged (processor_at (setup_for given) es a) → IsRanged (processor_at (setup_for given) (e ∷ es) a)
  one_more e es legal a lt was = go (e.actor == a) refl where
    go : (b : Bool) → (e.actor == a) ≡ b → IsRanged (processor_at (setup_for given) (e ∷ es) a)
    go false x = subst IsRanged (sym (state_stays (setup_for given) e es a x)) was
    go true x =
        let same : e.actor ≡ a = grind (arith, nat_tests) in
        subst (λ (n : ℕ). IsRanged (processor_at (setup_for given) es n) → IsRanged (processor_at (setup_for given) (e ∷ es) n)) same
        (λ w. rw (eq-eqb e.actor e.actor refl) (ranged_then e es legal (subst (λ (n : ℕ). n < given.layout.procs) (sym same) lt) w)) was

  pub ranged : (es : List (Entry Op)) → Legal (those (setup_for given)) es → (a : ℕ) → a < given.layout.procs → IsRanged (processor_at (setup_for given) es a)
  ranged [] legal a lt o is = absurd (let no : None ≡ Some o = sym (fit.opens a) ∙ is in cc)
  ranged (e ∷ es) legal a lt o is = one_more e es legal a lt (λ p x. ranged es legal.0 a lt p x) o is

  -- so each point keeps the heap that never frees bounded
  module _ (e : Entry Op) (es : List (Entry Op)) (legal : Legal (those (setup_for given)) (e ∷ es)) (lt : e.actor < given.layout.procs) (x : Ever) (bounded : IsBounded z x) where
    answered_so : (y : Act) (b : Bool) → y.full ≡ b → (answer_at given.shapes x y ≡ answer_of given.shapes x y.op) ⊎ (answer_at given.shapes x y ≡ Answer.Full)
    answered_so y b is = grind arith

    pub bounded_then : IsBounded z (acted given.shapes x (acts given.layout (now e es legal lt) e.found))
    bounded_then = subst (IsBounded z) ((known.points given.shapes given.layout).alone x (acts given.layout (now e es legal lt) e.found)) (go ((deeds given.layout given.shapes).acts (now e es legal lt) e.found) refl) where
      go : (p : Option Act) → (deeds given.layout given.shapes).acts (now e es legal lt) e.found ≡ p → IsBounded z (acted given.shapes x (point_of (acts given.layout (now e es legal lt) e.found)))
      go None is = subst (λ (q : Option Act). IsBounded z (acted given.shapes x q)) (sym is) bounded
      go (Some y) is =
          let unacted = fit.acts_for (now e es legal lt) e.found y (busy_now e es legal lt) is in
          subst (λ (q : Option Act). IsBounded z (acted given.shapes x q)) (sym is)
          (known.bounds.after z x y.op (answer_at given.shapes x y) bounded (ranged_now e es legal lt (ranged es legal.0 e.actor lt) y.op unacted) (answered_so y y.full refl))
