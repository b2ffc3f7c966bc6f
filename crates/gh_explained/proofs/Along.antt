-- Along the statements of a whole run alone the heap that never frees answers as it did, and it comes to the same once all goroutines have ended: the end of one changes no answer and no value.
use Rattle.std.proofs.Common.{◌≡◌, ℕ, zero, suc, ◌+◌, ◌<◌, ◌≤◌, Bool, true, false, cond, eqb, ltb, List, [], ◌∷◌, ◌++◌, length, reverse, Option, Some, None, refl, sym, ap, subst, ◌∙◌, arith, inl, inr}
use Rattle.gh_explained.proofs.Vocabulary.{Act, acted, acted_all, acted_in, acts, acts_last, AllAnswer, AllStands, Answer, answer_at, Answered, Answers, answers_in, before_step, begun_in, by, cases_lt, EachOperationActsOnce, Entry, Ever, ever_after, ever_after_all, ever_is, ever_of, EveryListOfAScriptStands, has_ended, in_range, is_statement, IsExplained, its_own, Layout, LaysOut, Legal, map-reverse, nat_tests, no_processors, OnlyPointsChange, Op, opening_ever, ops_in, option_to_list, order_of, Outcome, Program, setting_of, setup_of, Shape, WellFormed, with_end}
use Rattle.gh_world.specs.Points.{answers_of, ever_along, GoesAlong, ops_of, statements_acted, StatementsAreEnough, with_ends}
use Rattle.gh_explained.proofs.Explained.Cycles.{is_done}

-- ---- heaps, but for which goroutines have ended

-- the same heap, of which none has
abbrev bare : Ever → Ever
bare e = record e { ended = λ g. false }

module _ (shapes : List Shape) where
  -- an operation answers and changes the same there

  statement_bare : (e : Ever) (o : Op) (a : Answer) → is_statement o ≡ true → bare (ever_after shapes e o a) ≡ ever_after shapes (bare e) o a
  statement_bare e o a is = grind arith

  -- and what is no statement changes nothing there
  other_bare : (e : Ever) (o : Op) (a : Answer) → is_statement o ≡ false → bare (ever_after shapes e o a) ≡ bare e
  other_bare e o a no_statement = grind arith

  answers_bare : (e : Ever) (o : Op) (a : Answer) → Answers shapes e o a → Answers shapes (bare e) o a
  answers_bare e o a is = grind arith

  -- so along the statements alone it goes as along all that acts
  abbrev AnsweredFrom : Ever → List Answered → Type 0
  AnsweredFrom e xs = AllAnswer shapes e (ops_of xs) (answers_of xs)

  abbrev after_these : Ever → List Answered → Ever
  after_these e xs = ever_after_all shapes e (ops_of xs) (answers_of xs)

  answers_along : (xs : List Answered) (e : Ever) → AnsweredFrom e xs → AnsweredFrom (bare e) (statements_acted xs)
  answers_along [] e all = tt
  answers_along (x ∷ xs) e all = go (is_statement x.op) refl (answers_along xs (ever_after shapes e x.op x.answer) all.1) where
    go : (b : Bool) → is_statement x.op ≡ b → AnsweredFrom (bare (ever_after shapes e x.op x.answer)) (statements_acted xs) → AnsweredFrom (bare e) (cond b (x ∷ statements_acted xs) (statements_acted xs))
    go true is rest = (answers_bare e x.op x.answer all.0, subst (λ (f : Ever). AnsweredFrom f (statements_acted xs)) (statement_bare e x.op x.answer is) rest)
    go false other rest = subst (λ (f : Ever). AnsweredFrom f (statements_acted xs)) (other_bare e x.op x.answer other) rest

  ever_bare : (xs : List Answered) (e : Ever) → bare (after_these e xs) ≡ after_these (bare e) (statements_acted xs)
  ever_bare [] e = refl
  ever_bare (x ∷ xs) e = ever_bare xs (ever_after shapes e x.op x.answer) ∙ go (is_statement x.op) refl where
    go : (b : Bool) → is_statement x.op ≡ b → after_these (bare (ever_after shapes e x.op x.answer)) (statements_acted xs) ≡ after_these (bare e) (cond b (x ∷ statements_acted xs) (statements_acted xs))
    go true is = ap (λ (f : Ever). after_these f (statements_acted xs)) (statement_bare e x.op x.answer is)
    go false other = ap (λ (f : Ever). after_these f (statements_acted xs)) (other_bare e x.op x.answer other)

-- ---- once the first goroutines have ended

abbrev with_ended : Ever → (ℕ → Bool) → Ever
with_ended e ended = record e { ended = ended }

same_ended : (e : Ever) (f g : ℕ → Bool) → ((h : ℕ) → f h ≡ g h) → with_ended e f ≡ with_ended e g
same_ended e f g same = λ i. with_ended e (λ h. same h i)

first_end : (n h : ℕ) (b : Bool) → cond (eqb h n) true (cond (ltb h n) true b) ≡ cond (ltb h (suc n)) true b
first_end n h b = grind arith

none_below : (h : ℕ) (b : Bool) → b ≡ cond (ltb h 0) true b
none_below h b = let none : ltb h 0 ≡ false = grind (arith, nat_tests) in sym (ap (λ (c : Bool). cond c true b) none)

ends_are : (n : ℕ) (e : Ever) → with_ends e n ≡ with_ended e (λ h. cond (ltb h n) true (e.ended h))
ends_are zero e = same_ended e e.ended (λ h. cond (ltb h 0) true (e.ended h)) (λ h. none_below h (e.ended h))
ends_are (suc n) e =
    ap (λ (f : Ever). with_end f n) (ends_are n e)
    ∙ same_ended e (λ h. cond (eqb h n) true (cond (ltb h n) true (e.ended h))) (λ h. cond (ltb h (suc n)) true (e.ended h)) (λ h. first_end n h (e.ended h))

-- where these are the ones that have, it is the heap itself
ended_again : (n : ℕ) (e : Ever) → ((h : ℕ) → h < n → e.ended h ≡ true) → ((h : ℕ) → n ≤ h → e.ended h ≡ false) → with_ends (bare e) n ≡ e
ended_again n e low high = ends_are n (bare e) ∙ same_ended e (λ h. cond (ltb h n) true false) e.ended (λ h. go h (ltb h n) refl) where
  go : (h : ℕ) (b : Bool) → ltb h n ≡ b → cond b true false ≡ e.ended h
  go h true is = sym (low h (grind (arith, nat_tests)))
  go h false is = sym (high h (grind (arith, nat_tests)))

-- ---- no goroutine beyond those of the heap ends

module _ (p : Program) (l : Layout) (each : EachOperationActsOnce) where
  abbrev IsIn : Op → Type 0
  IsIn o = in_range l.goroutines l.globals (length p.shapes) o ≡ true

  abbrev AreIn : List Op → Type 0
  AreIn [] = Unit {0}
  AreIn (o ∷ os) = IsIn o × AreIn os

  all_in : (a : ℕ) (es : List (Entry Op)) → Legal (setting_of p l) es → AreIn (begun_in (by a es))
  all_in a [] legal = tt
  all_in a (e ∷ es) legal = go (eqb e.actor a) (all_in a es legal.0) where
    one : (o : Option Op) → e.begun ≡ o → AreIn (begun_in (by a es)) → AreIn (option_to_list o ++ begun_in (by a es))
    one o is rest = grind arith

    go : (b : Bool) → AreIn (begun_in (by a es)) → AreIn (begun_in (cond b (e ∷ by a es) (by a es)))
    go true rest = one e.begun refl rest
    go false rest = rest

  acts_in : (es : List (Entry Op)) (e : Entry Op) (legal : Legal (setting_of p l) (e ∷ es)) (x : Act) → acts l (before_step p.shapes l es e) e.found ≡ Some x → IsIn x.op
  acts_in es e legal x is = elim (cases_lt e.actor l.procs) [
    | inl lt ↦ (subst AreIn (acts_last p l each e.actor lt es e legal (its_own p l es e legal e.actor lt refl) x is) (all_in e.actor (e ∷ es) legal)).0
    | inr le ↦ absurd (let no : None ≡ Some x = sym (no_processors p l es e legal le).acts_not ∙ is in cc)
  ]

  keeps_ended : (e : Ever) (o : Op) (a : Answer) (g : ℕ) → l.goroutines ≤ g → IsIn o → (ever_after p.shapes e o a).ended g ≡ e.ended g
  keeps_ended e o a g le is = grind arith

  none_beyond : (es : List (Entry Op)) → Legal (setting_of p l) es → (g : ℕ) → l.goroutines ≤ g → (ever_of p.shapes l es).ended g ≡ false
  none_beyond [] legal g le = refl
  none_beyond (e ∷ es) legal g le = go (acts l (before_step p.shapes l es e) e.found) refl (none_beyond es legal.0 g le) where
    go : (x : Option Act) → acts l (before_step p.shapes l es e) e.found ≡ x → (ever_of p.shapes l es).ended g ≡ false → (acted p.shapes (ever_of p.shapes l es) x).ended g ≡ false
    go None is ih = ih
    go (Some x) is ih = keeps_ended (ever_of p.shapes l es) x.op (answer_at p.shapes (ever_of p.shapes l es) x) g le (acts_in es e legal x is) ∙ ih

-- ---- at the end of a run

module _ (every : EveryListOfAScriptStands) (points : OnlyPointsChange) (each : EachOperationActsOnce) (p : Program) (l : Layout) (formed : WellFormed p) (out : LaysOut p l) (es : List (Entry Op)) (o : Outcome) (x : IsExplained p l es o) where
  abbrev in_order : List Answered
  in_order = acted_in p.shapes l es

  stands : AllStands (setup_of p l) es
  stands = every p l es formed out x.run.legal

  -- what it comes to along all that acts
  along_all : after_these p.shapes opening_ever in_order ≡ ever_of p.shapes l es
  along_all =
      let has = acted_all p l es stands.stands.full in
      let ops : ops_of in_order ≡ reverse (ops_in p l es) = map-reverse (λ (a : Answered). a.op) (order_of p.shapes l es) in
      let answers : answers_of in_order ≡ reverse (answers_in p l es) = map-reverse (λ (a : Answered). a.answer) (order_of p.shapes l es) in
      ap (λ (os : List Op). ever_after_all p.shapes opening_ever os (answers_of in_order)) ops
      ∙ ap (λ (as' : List Answer). ever_after_all p.shapes opening_ever (reverse (ops_in p l es)) as') answers
      ∙ has.ever

  along_statements : ever_along p.shapes (statements_acted in_order) ≡ bare (ever_of p.shapes l es)
  along_statements = grind (arith, along_all, ever_bare)

  all_ended : (g : ℕ) → g < length p.goroutines → (ever_of p.shapes l es).ended g ≡ true
  all_ended g lt =
      let done = sym (ap has_ended x.led) ∙ x.run.done (l.procs + l.workers) (omega arith) in
      let last = stands.last x.coordinator x.led (is_done x.coordinator.stage done) in
      let many = out.goroutines_are in
      ap (λ (e : Ever). e.ended g) (sym (ever_is p l points es)) ∙ last.over g (omega (arith, lt, many))

  none_else : (g : ℕ) → length p.goroutines ≤ g → (ever_of p.shapes l es).ended g ≡ false
  none_else g le = grind (arith, none_beyond)

  pub goes_along : GoesAlong p l es
  goes_along = record {
    answers = answers_along p.shapes in_order opening_ever (subst (λ (as' : List Answer). AllAnswer p.shapes opening_ever (ops_of in_order) as') (sym x.answered) x.ever);
    ever = ap (λ (e : Ever). with_ends e (length p.goroutines)) along_statements ∙ ended_again (length p.goroutines) (ever_of p.shapes l es) all_ended none_else;
  }

pub statements_are_enough : EveryListOfAScriptStands → OnlyPointsChange → EachOperationActsOnce → StatementsAreEnough
statements_are_enough every points each p l es o formed lays x = goes_along every points each p l formed lays es o x
