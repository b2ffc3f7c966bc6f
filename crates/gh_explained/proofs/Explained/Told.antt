-- Each statement's answer is given at its end: what the statements of a processor are given are the answers of its operations with a point, statement by statement.
use Rattle.std.proofs.Common.{◌≡◌, ℕ, suc, ◌<◌, Bool, true, false, not, cond, eqb, ◌&&◌, List, [], ◌∷◌, ◌++◌, map, length, reverse, Option, Some, None, refl, sym, ap, subst, ◌∙◌, append_assoc, arith, inl, inr, is_some}
use Rattle.std.proofs.lemmas.List.{append-nil}
use Rattle.std.proofs.lemmas.List.Elements.{filter-append}
use Rattle.gh_explained.proofs.Vocabulary.{all_its, Answer, answer_in, Answered, answers_at, answers_given, answers_to, AreOf, before_step, begun_aside, begun_in, by, cases_lt, deeds, Entry, filter, given_at, given_by, given_is, gives, gives_at, has_point, is_busy_at, is_of_seat, is_pointed, is_serving, is_statement, IsAnothers, IsItsOwn, its_goroutine, its_own, its_seat, Layout, Legal, length-reverse, no_processors, not_another, now_in, Op, option_to_list, Processor, processor_kind, Program, reverse_more, setting_of, started, state_of, statement_pointed, stays_pointed, step_facts, takes, who_steps, with_goroutine}

-- an answer, where the operation is a statement
abbrev told : Op → Answer → List (ℕ × Answer)
told o a = cond (is_statement o) ((its_goroutine o, a) ∷ []) []

-- those of operations and their answers, the newest first
abbrev pub told_of : List Op → List Answer → List (ℕ × Answer)
told_of [] as' = []
told_of (o ∷ os) [] = []
told_of (o ∷ os) (a ∷ as') = told_of os as' ++ told o a

answers_more : (xs : List Op) (as' : List Answer) (o : Op) (a : Answer) → length xs ≡ length as' → answers_to (xs ++ o ∷ []) (as' ++ a ∷ []) ≡ answers_to xs as' ++ told o a
answers_more [] [] o a long = append-nil (told o a)
answers_more [] (b ∷ bs) o a long = absurd (omega arith)
answers_more (x ∷ xs) [] o a long = absurd (omega arith)
answers_more (x ∷ xs) (b ∷ bs) o a long = ap (λ (rest : List (ℕ × Answer)). told x b ++ rest) (answers_more xs bs o a (omega arith)) ∙ sym (append_assoc (told x b) (answers_to xs bs) (told o a))

pub told_backwards : (os : List Op) (as' : List Answer) → length os ≡ length as' → answers_to (reverse os) (reverse as') ≡ told_of os as'
told_backwards [] [] long = refl
told_backwards [] (b ∷ bs) long = absurd (omega arith)
told_backwards (o ∷ os) [] long = absurd (omega arith)
told_backwards (o ∷ os) (a ∷ as') long =
    let same : length (reverse os) ≡ length (reverse as') = let x = length-reverse os in let y = length-reverse as' in omega (arith, long, x, y) in
    rw (reverse_more o os, reverse_more a as') (answers_more (reverse os) (reverse as') o a same) ∙ ap (λ (xs : List (ℕ × Answer)). xs ++ told o a) (told_backwards os as' (omega (arith, long)))

-- whoever has no point is no statement
pub told_points : (xs : List Answered) → told_of (map (λ (a : Answered). a.op) (filter (λ (a : Answered). has_point a.op) xs)) (map (λ (a : Answered). a.answer) (filter (λ (a : Answered). has_point a.op) xs)) ≡ told_of (map (λ (a : Answered). a.op) xs) (map (λ (a : Answered). a.answer) xs)
told_points [] = refl
told_points (x ∷ xs) = go (has_point x.op) refl (told_points xs) where
  go : (b : Bool) → has_point x.op ≡ b → told_of (map (λ (a : Answered). a.op) (filter (λ (a : Answered). has_point a.op) xs)) (map (λ (a : Answered). a.answer) (filter (λ (a : Answered). has_point a.op) xs)) ≡ told_of (map (λ (a : Answered). a.op) xs) (map (λ (a : Answered). a.answer) xs) →
      told_of (map (λ (a : Answered). a.op) (cond b (x ∷ filter (λ (a : Answered). has_point a.op) xs) (filter (λ (a : Answered). has_point a.op) xs))) (map (λ (a : Answered). a.answer) (cond b (x ∷ filter (λ (a : Answered). has_point a.op) xs) (filter (λ (a : Answered). has_point a.op) xs)))
      ≡ told_of (map (λ (a : Answered). a.op) xs) (map (λ (a : Answered). a.answer) xs) ++ told x.op x.answer
  go true t ih = ap (λ (ys : List (ℕ × Answer)). ys ++ told x.op x.answer) ih
  go false t ih = ih ∙ sym (ap (λ (b : Bool). told_of (map (λ (a : Answered). a.op) xs) (map (λ (a : Answered). a.answer) xs) ++ cond b ((its_goroutine x.op, x.answer) ∷ []) []) (statement_pointed x.op t) ∙ append-nil (told_of (map (λ (a : Answered). a.op) xs) (map (λ (a : Answered). a.answer) xs)))

no_answer : (b : Bool) → cond {A = Option Answer} b None None ≡ None
no_answer b = grind arith

module _ (p : Program) (l : Layout) (procs : l.procs ≡ p.settings.procs) where
  abbrev own : (a : ℕ) → List (Entry Op) → Processor
  own a es = state_of (processor_kind p.shapes l) a es

  abbrev pub given : (a : ℕ) → List (Entry Op) → List Answer
  given a es = given_by (processor_kind p.shapes l) (deeds l p.shapes) a es

  -- what the statements of the processor's goroutines were answered
  abbrev pub given_to : (a : ℕ) → List (Entry Op) → List (ℕ × Answer)
  given_to a es = answers_at p a (answers_given p l es)

  -- the operation o is begun and not ended, and what stood before it is answered
  record Runs (a : ℕ) (es : List (Entry Op)) (o : Op) (os : List Op) (m : Processor) : Type 0 where
    serving : is_serving m.task ≡ is_statement o
    pointed : is_pointed m.task ≡ has_point o
    answers : given_to a es ≡ told_of (filter has_point os) (given a es)
    long : length (filter has_point os) ≡ length (given a es)

  pub record Rests (a : ℕ) (es : List (Entry Op)) : Type 0 where
    pub answers : given_to a es ≡ told_of (filter has_point (begun_in (by a es))) (given a es)
    pub long : length (filter has_point (begun_in (by a es))) ≡ length (given a es)

  -- what the processor has answered
  record Told (a : ℕ) (es : List (Entry Op)) : Type 0 where
    idle : is_busy_at (own a es).task ≡ false → Rests a es
    busy : is_busy_at (own a es).task ≡ true → (o : Op) × (os : List Op) × (begun_in (by a es) ≡ o ∷ os) × Runs a es o os (own a es)

  -- before the entry's step an operation is begun
  begun_op : (m : Processor) (o : Op) → is_busy_at m.task ≡ false → is_busy_at ((processor_kind p.shapes l).begins m o).task ≡ true → (is_serving ((processor_kind p.shapes l).begins m o).task ≡ is_statement o) × (is_pointed ((processor_kind p.shapes l).begins m o).task ≡ has_point o)
  begun_op m o idle busy = grind arith

  starts : (a : ℕ) (es : List (Entry Op)) (b : Option Op) → ((o : Op) → b ≡ Some o → is_busy_at (own a es).task ≡ false) → is_busy_at (started (processor_kind p.shapes l) b (own a es)).task ≡ true → Told a es →
      (o : Op) × (os : List Op) × (option_to_list b ++ begun_in (by a es) ≡ o ∷ os) × Runs a es o os (started (processor_kind p.shapes l) b (own a es))
  starts a es None rested busy t = t.busy busy
  starts a es (Some o) rested busy t =
      let idle = rested o refl in
      let here = t.idle idle in
      let first = begun_op (own a es) o idle busy in
      (o, begun_in (by a es), refl, record { serving = first.0; pointed = first.1; answers = here.answers; long = here.long })

  module _ (es : List (Entry Op)) (e : Entry Op) (legal : Legal (setting_of p l) (e ∷ es)) where
    abbrev m : Processor
    m = before_step p.shapes l es e

    -- what the entry gives
    abbrev gave : Option Answer
    gave = given_at m.task (gives l m e.found)

    -- and to which goroutine
    abbrev now : List (ℕ × Answer)
    now = with_goroutine (now_in (e ∷ es)).0 (answer_in p.shapes l es e)

    answered_more : (a : ℕ) → given_to a (e ∷ es) ≡ given_to a es ++ answers_at p a now
    answered_more a = filter-append (λ (x : ℕ × Answer). is_of_seat p a x.0) (answers_given p l es) now

    -- The processor at a seat, by whom the entry is.
    module _ (a : ℕ) (lt : a < l.procs) where
      -- what is begun before its step
      runs : IsItsOwn p l es e legal a lt → Told a es → (o : Op) × (os : List Op) × (begun_in (by a (e ∷ es)) ≡ o ∷ os) × Runs a es o os m
      runs x t = grind (arith, starts)

      -- a statement's answer is its goroutine's, which is of that processor
      told_at : (o : Op) (os : List Op) → begun_in (by a (e ∷ es)) ≡ o ∷ os → (b : Answer) → answers_at p a (told o b) ≡ told o b
      told_at o os begun b = go (is_statement o) refl where
        go : (s : Bool) → is_statement o ≡ s → answers_at p a (cond s ((its_goroutine o, b) ∷ []) []) ≡ cond s ((its_goroutine o, b) ∷ []) []
        go false other = refl
        go true is =
            let its = its_seat p l procs a o (subst (AreOf p l procs a) begun (all_its p l procs a (e ∷ es) legal)).0 is in
            ap (λ (c : Bool). cond c ((its_goroutine o, b) ∷ []) []) its

      now_some : (x : IsItsOwn p l es e legal a lt) (o : Op) (os : List Op) → begun_in (by a (e ∷ es)) ≡ o ∷ os → is_serving m.task ≡ is_statement o → (b : Answer) → gives_at l m m.task e.found ≡ Some b → now ≡ told o b
      now_some x o os begun serving b is = grind arith

      now_none : (x : IsItsOwn p l es e legal a lt) (o : Op) (os : List Op) → begun_in (by a (e ∷ es)) ≡ o ∷ os → is_serving m.task ≡ is_statement o → gives_at l m m.task e.found ≡ None → now ≡ []
      now_none x o os begun serving is = grind arith

      given_own : IsItsOwn p l es e legal a lt → given a (e ∷ es) ≡ option_to_list gave ++ given a es
      given_own x = ap (λ (b : Bool). cond b (option_to_list gave ++ given a es) (given a es)) x.here

      goes_on : (x : IsItsOwn p l es e legal a lt) (o : Op) (os : List Op) → gives_at l m m.task e.found ≡ None → begun_in (by a (e ∷ es)) ≡ o ∷ os → Runs a es o os m → Told a (e ∷ es)
      goes_on x o os is begun r =
          let s = step_facts l p.shapes m m.task e.found x.busy in
          let next : is_busy_at (takes l p.shapes m e.found).task ≡ true = s.ends ∙ ap (λ (y : Option Answer). not (is_some y)) is in
          let still : is_busy_at (own a (e ∷ es)).task ≡ true = ap (λ (n : Processor). is_busy_at n.task) x.after ∙ next in
          let serving : is_serving (takes l p.shapes m e.found).task ≡ is_statement o = s.serves ∙ ap (λ (b : Bool). b && is_serving m.task) next ∙ r.serving in
          let none : gave ≡ None = ap (λ (y : Option Answer). given_at m.task y) is ∙ given_is m.task None ∙ no_answer (is_pointed m.task) in
          let same : given a (e ∷ es) ≡ given a es = given_own x ∙ ap (λ (y : Option Answer). option_to_list y ++ given a es) none in
          let answers : given_to a (e ∷ es) ≡ given_to a es = answered_more a ∙ ap (λ (xs : List (ℕ × Answer)). given_to a es ++ answers_at p a xs) (now_none x o os begun r.serving is) ∙ append-nil (given_to a es) in
          record {
            idle = λ h. absurd (let q : true ≡ false = sym still ∙ h in cc);
            busy = λ h. (
              o,
              os,
              begun,
              record {
                serving = ap (λ (n : Processor). is_serving n.task) x.after ∙ serving;
                pointed = ap (λ (n : Processor). is_pointed n.task) x.after ∙ stays_pointed l p.shapes m m.task e.found x.busy next ∙ r.pointed;
                answers = answers ∙ r.answers ∙ ap (λ (xs : List Answer). told_of (filter has_point os) xs) (sym same);
                long = r.long ∙ ap length (sym same);
              },
            );
          }

      -- one operation more is answered, if it has a point
      one_more : (o : Op) (os : List Op) (b : Answer) (gs : List Answer) → length (filter has_point os) ≡ length gs →
          (told_of (filter has_point os) gs ++ told o b ≡ told_of (filter has_point (o ∷ os)) (option_to_list (cond (has_point o) (Some b) None) ++ gs)) × (length (filter has_point (o ∷ os)) ≡ length (option_to_list (cond (has_point o) (Some b) None) ++ gs))
      one_more o os b gs long = go (has_point o) refl where
        go : (c : Bool) → has_point o ≡ c →
            (told_of (filter has_point os) gs ++ told o b ≡ told_of (cond c (o ∷ filter has_point os) (filter has_point os)) (option_to_list (cond c (Some b) None) ++ gs)) × (length (cond c (o ∷ filter has_point os) (filter has_point os)) ≡ length (option_to_list (cond c (Some b) None) ++ gs))
        go true t = (refl, ap suc long)
        go false t = (ap (λ (c : Bool). told_of (filter has_point os) gs ++ cond c ((its_goroutine o, b) ∷ []) []) (statement_pointed o t) ∙ append-nil (told_of (filter has_point os) gs), long)

      ends : (x : IsItsOwn p l es e legal a lt) (o : Op) (os : List Op) (b : Answer) → gives_at l m m.task e.found ≡ Some b → begun_in (by a (e ∷ es)) ≡ o ∷ os → Runs a es o os m → Told a (e ∷ es)
      ends x o os b is begun r =
          let s = step_facts l p.shapes m m.task e.found x.busy in
          let next : is_busy_at (takes l p.shapes m e.found).task ≡ false = s.ends ∙ ap (λ (y : Option Answer). not (is_some y)) is in
          let over : is_busy_at (own a (e ∷ es)).task ≡ false = ap (λ (n : Processor). is_busy_at n.task) x.after ∙ next in
          let some : gave ≡ cond (has_point o) (Some b) None = ap (λ (y : Option Answer). given_at m.task y) is ∙ given_is m.task (Some b) ∙ ap (λ (c : Bool). cond c (Some b) None) r.pointed in
          let then : given a (e ∷ es) ≡ option_to_list (cond (has_point o) (Some b) None) ++ given a es = given_own x ∙ ap (λ (y : Option Answer). option_to_list y ++ given a es) some in
          let more : given_to a (e ∷ es) ≡ given_to a es ++ told o b = answered_more a ∙ ap (λ (xs : List (ℕ × Answer)). given_to a es ++ xs) (ap (answers_at p a) (now_some x o os begun r.serving b is) ∙ told_at o os begun b) in
          let one = one_more o os b (given a es) r.long in
          record {
            idle = λ h. record {
              answers = more ∙ ap (λ (xs : List (ℕ × Answer)). xs ++ told o b) r.answers ∙ one.0 ∙ ap (λ (xs : List Op). told_of (filter has_point xs) (option_to_list (cond (has_point o) (Some b) None) ++ given a es)) (sym begun) ∙ ap (λ (xs : List Answer). told_of (filter has_point (begun_in (by a (e ∷ es)))) xs) (sym then);
              long = ap (λ (xs : List Op). length (filter has_point xs)) begun ∙ one.1 ∙ ap length (sym then);
            };
            busy = λ h. absurd (let q : false ≡ true = sym over ∙ h in cc);
          }

      by_own : IsItsOwn p l es e legal a lt → Told a es → Told a (e ∷ es)
      by_own x t = let w = runs x t in go (gives_at l m m.task e.found) refl w.0 w.1 w.2 w.3 where
        go : (b : Option Answer) → gives_at l m m.task e.found ≡ b → (o : Op) (os : List Op) → begun_in (by a (e ∷ es)) ≡ o ∷ os → Runs a es o os m → Told a (e ∷ es)
        go None is o os begun r = goes_on x o os is begun r
        go (Some b) is o os begun r = ends x o os b is begun r

    -- what another answers is none of its goroutines'
    elsewhere : (a b : ℕ) (lt : b < l.procs) → IsItsOwn p l es e legal b lt → Told b es → eqb b a ≡ false → answers_at p a now ≡ []
    elsewhere a b lt x t apart = let w = runs b lt x t in go (gives_at l m m.task e.found) refl w.0 w.1 w.2 w.3 where
      no_told : (o : Op) (os : List Op) → begun_in (by b (e ∷ es)) ≡ o ∷ os → (c : Answer) → answers_at p a (told o c) ≡ []
      no_told o os begun c = by_kind (is_statement o) refl where
        by_kind : (s : Bool) → is_statement o ≡ s → answers_at p a (cond s ((its_goroutine o, c) ∷ []) []) ≡ []
        by_kind false other = refl
        by_kind true is =
            let its = its_seat p l procs b o (subst (AreOf p l procs b) begun (all_its p l procs b (e ∷ es) legal)).0 is in
            ap (λ (d : Bool). cond d ((its_goroutine o, c) ∷ []) []) (not_another p a b (its_goroutine o) apart its)

      go : (c : Option Answer) → gives_at l m m.task e.found ≡ c → (o : Op) (os : List Op) → begun_in (by b (e ∷ es)) ≡ o ∷ os → Runs b es o os m → answers_at p a now ≡ []
      go None is o os begun r = ap (answers_at p a) (now_none b lt x o os begun r.serving is)
      go (Some c) is o os begun r = ap (answers_at p a) (now_some b lt x o os begun r.serving c is) ∙ no_told o os begun c

    -- a step of another leaves it so
    aside : (a : ℕ) (lt : a < l.procs) → IsAnothers p l es e legal a lt → answers_at p a now ≡ [] → Told a es → Told a (e ∷ es)
    aside a lt x none t =
        let same : given a (e ∷ es) ≡ given a es = ap (λ (b : Bool). cond b (option_to_list gave ++ given a es) (given a es)) x.apart in
        let begun : begun_in (by a (e ∷ es)) ≡ begun_in (by a es) = begun_aside p l a es e x.apart in
        let answers : given_to a (e ∷ es) ≡ given_to a es = answered_more a ∙ ap (λ (xs : List (ℕ × Answer)). given_to a es ++ xs) none ∙ append-nil (given_to a es) in
        record {
          idle = λ h. let r = t.idle (ap (λ (n : Processor). is_busy_at n.task) (sym x.after) ∙ h) in record {
            answers = answers ∙ r.answers ∙ ap (λ (xs : List Op). told_of (filter has_point xs) (given a es)) (sym begun) ∙ ap (λ (xs : List Answer). told_of (filter has_point (begun_in (by a (e ∷ es)))) xs) (sym same);
            long = ap (λ (xs : List Op). length (filter has_point xs)) begun ∙ r.long ∙ ap length (sym same);
          };
          busy = λ h. let w = t.busy (ap (λ (n : Processor). is_busy_at n.task) (sym x.after) ∙ h) in (
            w.0,
            w.1,
            begun ∙ w.2,
            record {
              serving = ap (λ (n : Processor). is_serving n.task) x.after ∙ w.3.serving;
              pointed = ap (λ (n : Processor). is_pointed n.task) x.after ∙ w.3.pointed;
              answers = answers ∙ w.3.answers ∙ ap (λ (xs : List Answer). told_of (filter has_point w.1) xs) (sym same);
              long = w.3.long ∙ ap length (sym same);
            },
          );
        }

    none_now : (a : ℕ) → eqb e.actor a ≡ false → ((b : ℕ) → b < l.procs → Told b es) → answers_at p a now ≡ []
    none_now a apart before = elim (cases_lt e.actor l.procs) [
      | inl lt ↦ elsewhere a e.actor lt (its_own p l es e legal e.actor lt refl) (before e.actor lt) apart
      | inr le ↦ ap (λ (b : Bool). answers_at p a (with_goroutine (now_in (e ∷ es)).0 (cond b (gives_at l m m.task e.found) None))) (no_processors p l es e legal le).idle
    ]

    step : ((b : ℕ) → b < l.procs → Told b es) → (a : ℕ) → a < l.procs → Told a (e ∷ es)
    step before a lt = elim (who_steps p l es e legal a lt) [ inl x ↦ by_own a lt x (before a lt) | inr x ↦ aside a lt x (none_now a x.apart before) (before a lt) ]

  all_told : (es : List (Entry Op)) → Legal (setting_of p l) es → (a : ℕ) → a < l.procs → Told a es
  all_told [] legal a lt = record { idle = λ h. record { answers = refl; long = refl }; busy = λ h. absurd cc }
  all_told (e ∷ es) legal a lt = step es e legal (all_told es legal.0) a lt

  -- where it has nothing begun all is told
  pub rests_told : (es : List (Entry Op)) → Legal (setting_of p l) es → (a : ℕ) → a < l.procs → is_busy_at (own a es).task ≡ false → Rests a es
  rests_told es legal a lt idle = (all_told es legal a lt).idle idle
