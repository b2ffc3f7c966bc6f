-- What the statements of a whole run are answered.
use Rattle.std.proofs.Common.{◌≡◌, ℕ, ◌<◌, ◌≤◌, ◌%◌, Bool, true, false, cond, eqb, eq-eqb, List, [], ◌∷◌, ◌++◌, map, length, reverse, Option, refl, sym, ap, subst, ◌∙◌, arith}
use Rattle.std.proofs.lemmas.Bool.{eqb-true}
use Rattle.std.proofs.lemmas.Nat.{mod_below}
use Rattle.gh_explained.proofs.Vocabulary.{Act, acted_all, acted_answers, acted_at, acted_by, acted_in, acted_its, acted_ops, AllAnswer, Answer, Answered, answered_by, AnsweredDeed, answers_at, answers_by, answers_given, answers_in, answers_to, AreItsStatements, arena_of, begun_in, by, deeds, EachOperationActsOnce, Entry, ever_answers_by, filter, has_ended, has_left_at, has_point, is_busy_at, is_of_seat, is_processor, is_statement_of, IsRun, Layout, length-map, ListStands, map-reverse, meaning, none_acts, none_beyond, OnlyPointsChange, Op, opening_ever, ops_are, ops_by, option_to_list, order_at, order_of, points_are, points_by, Processor, processor_kind, Program, setting_of, state_of, statement_as_op, statements_of, Task, turns_mine, turns_of}
use Rattle.gh_lists.specs.Processors.{answers_of}
use Rattle.gh_explained.proofs.Explained.Told.{given, rests_told, told_backwards, told_of, told_points}

-- where no operation is listed, none acted
none_acted : (xs : List Answered) → map (λ (a : Answered). a.op) xs ≡ [] → xs ≡ []
none_acted [] e = refl
none_acted (x ∷ xs) e = absurd (cc)

-- the operations of those that have a point
ops_filtered : (xs : List Answered) → map (λ (a : Answered). a.op) (filter (λ (a : Answered). has_point a.op) xs) ≡ filter has_point (map (λ (a : Answered). a.op) xs)
ops_filtered [] = refl
ops_filtered (x ∷ xs) = go (has_point x.op) (ops_filtered xs) where
  go : (b : Bool) → map (λ (a : Answered). a.op) (filter (λ (a : Answered). has_point a.op) xs) ≡ filter has_point (map (λ (a : Answered). a.op) xs) →
      map (λ (a : Answered). a.op) (cond b (x ∷ filter (λ (a : Answered). has_point a.op) xs) (filter (λ (a : Answered). has_point a.op) xs)) ≡ cond b (x.op ∷ filter has_point (map (λ (a : Answered). a.op) xs)) (filter has_point (map (λ (a : Answered). a.op) xs))
  go true ih = ap (λ (os : List Op). x.op ∷ os) ih
  go false ih = ih

deed_answers : (ys : List (AnsweredDeed Act Answer)) → map (λ (a : Answered). a.answer) (map (λ (y : AnsweredDeed Act Answer). record { op = y.deed.op; answer = y.answer }) ys) ≡ map (λ (y : AnsweredDeed Act Answer). y.answer) ys
deed_answers [] = refl
deed_answers (y ∷ ys) = ap (λ (as' : List Answer). y.answer ∷ as') (deed_answers ys)

left_idle : (t : Task) → has_left_at t ≡ true → is_busy_at t ≡ false
left_idle t e = grind arith

-- a goroutine's answers are among those of its processor's goroutines
by_seat : (p : Program) (a g : ℕ) → is_of_seat p a g ≡ true → (xs : List (ℕ × Answer)) → answers_by g (answers_at p a xs) ≡ answers_by g xs
by_seat p a g its [] = refl
by_seat p a g its (x ∷ xs) = go (is_of_seat p a x.0) refl (by_seat p a g its xs) where
  apart : is_of_seat p a x.0 ≡ false → (b : Bool) → eqb x.0 g ≡ b → eqb x.0 g ≡ false
  apart e false ne = ne
  apart e true same = absurd (let no : true ≡ false = sym its ∙ ap (is_of_seat p a) (sym (eqb-true x.0 g same)) ∙ e in cc)

  go : (b : Bool) → is_of_seat p a x.0 ≡ b → answers_by g (answers_at p a xs) ≡ answers_by g xs → answers_by g (cond b (x ∷ answers_at p a xs) (answers_at p a xs)) ≡ cond (eqb x.0 g) (x.1 ∷ []) [] ++ answers_by g xs
  go true e ih = ap (λ (ys : List Answer). cond (eqb x.0 g) (x.1 ∷ []) [] ++ ys) ih
  go false e ih = ih ∙ sym (ap (λ (b : Bool). cond b (x.1 ∷ []) [] ++ answers_by g xs) (apart e (eqb x.0 g) refl))

module _ (p : Program) (l : Layout) (procs : l.procs ≡ p.settings.procs) (each : EachOperationActsOnce) (points : OnlyPointsChange) (es : List (Entry Op)) (run : IsRun p l es) (stands : ListStands (arena_of p.shapes l) (setting_of p l).opening es) where
  abbrev in_order : List Answered
  in_order = acted_in p.shapes l es

  abbrev pub all_answers : List Answer
  all_answers = map (λ (a : Answered). a.answer) in_order

  pub ever_answers : AllAnswer p.shapes opening_ever (map (λ (a : Answered). a.op) in_order) all_answers
  ever_answers =
      let acted = acted_all p l es stands.full in
      subst (λ (as' : List Answer). AllAnswer p.shapes opening_ever (map (λ (a : Answered). a.op) in_order) as') (sym (map-reverse (λ (a : Answered). a.answer) (order_of p.shapes l es)))
      (subst (λ (xs : List Op). AllAnswer p.shapes opening_ever xs (reverse (answers_in p l es))) (sym (map-reverse (λ (a : Answered). a.op) (order_of p.shapes l es))) acted.every)

  pub alone : (a : ℕ) → l.procs ≤ a → acted_at p.shapes l a es ≡ []
  alone a le = ap (λ (xs : List Answered). reverse xs) (none_acts p l a le es run.legal)

  -- The processor at a seat.
  module _ (a : ℕ) (lt : a < l.procs) where
    abbrev own : Processor
    own = state_of (processor_kind p.shapes l) a es

    abbrev its_order : List Answered
    its_order = acted_at p.shapes l a es

    abbrev its_answers : List Answer
    its_answers = map (λ (x : Answered). x.answer) its_order

    idle : is_busy_at own.task ≡ false
    idle = left_idle own.task (sym (ap has_ended (is_processor p l a lt es)) ∙ run.done a (omega (arith, lt)))

    begun : begun_in (by a es) ≡ ops_by p l a es
    begun = ops_are p l each a lt es run.legal ∙ ap (λ (o : Option Op). option_to_list o ++ ops_by p l a es) (each.rests own.task idle)

    pub acted_are : map (λ (x : Answered). x.op) its_order ≡ turns_of p a
    acted_are = map-reverse (λ (x : Answered). x.op) (order_at p.shapes l a es) ∙ ap (λ (os : List Op). reverse os) (sym begun) ∙ run.turns a lt

    -- the operations with a point, and their answers
    abbrev pointed : List Answered
    pointed = filter (λ (x : Answered). has_point x.op) (order_at p.shapes l a es)

    abbrev point_answers : List Answer
    point_answers = map (λ (x : Answered). x.answer) pointed

    pointed_ops : map (λ (x : Answered). x.op) pointed ≡ filter has_point (begun_in (by a es))
    pointed_ops = ops_filtered (order_at p.shapes l a es) ∙ ap (filter has_point) (sym begun)

    pointed_is : map (λ (x : Answered). x.answer) (points_by p l a es) ≡ point_answers
    pointed_is = ap (map (λ (x : Answered). x.answer)) (points_are p l points a es)

    given_are : point_answers ≡ given p l procs a es
    given_are =
        let own_answers = stands.answers a lt in
        let said : point_answers ≡ answers_of (arena_of p.shapes l) (setting_of p l).opening a es = sym pointed_is ∙ deed_answers (answered_by (processor_kind p.shapes l) (deeds l p.shapes) (meaning p.shapes) a es) in
        said ∙ own_answers.answers ∙ ap (λ (o : Option Answer). option_to_list o ++ given p l procs a es) (own_answers.resting idle)

    pub among_are : answers_at p a (answers_given p l es) ≡ answers_to (turns_of p a) its_answers
    among_are =
        let t = rests_told p l procs es run.legal a lt idle in
        let all = told_backwards (ops_by p l a es) (ever_answers_by p l a es) (length-map (order_at p.shapes l a es) (λ (x : Answered). x.op) ∙ sym (length-map (order_at p.shapes l a es) (λ (x : Answered). x.answer))) in
        t.answers
        ∙ ap (λ (xs : List Op). told_of xs (given p l procs a es)) (sym pointed_ops)
        ∙ ap (λ (as' : List Answer). told_of (map (λ (x : Answered). x.op) pointed) as') (sym given_are)
        ∙ told_points (order_at p.shapes l a es)
        ∙ sym all
        ∙ ap (λ (xs : List Op). answers_to xs (reverse (ever_answers_by p l a es))) (sym (map-reverse (λ (x : Answered). x.op) (order_at p.shapes l a es)) ∙ acted_are)
        ∙ ap (λ (as' : List Answer). answers_to (turns_of p a) as') (sym (map-reverse (λ (x : Answered). x.answer) (order_at p.shapes l a es)))

  -- A goroutine, and its processor.
  module _ (g : ℕ) where
    abbrev seat : ℕ
    seat = g % p.settings.procs

    there : seat < l.procs
    there = let some = l.limits.procs_fit.0 in let below = mod_below g p.settings.procs (omega (arith, procs, some)) in omega (arith, procs, below)

    its : is_of_seat p seat g ≡ true
    its = eq-eqb seat seat refl

    own_acted : acted_by g in_order ≡ acted_by g (acted_at p.shapes l seat es)
    own_acted = acted_its p l procs each seat g its es run.legal

    pub mine : map (λ (x : Answered). x.op) (acted_by g in_order) ≡ map (statement_as_op g) (statements_of p g)
    mine = ap (map (λ (x : Answered). x.op)) own_acted ∙ acted_ops p g (acted_at p.shapes l seat es) ∙ ap (filter (is_statement_of g)) (acted_are seat there) ∙ turns_mine p g seat its

    pub each_is : AreItsStatements p g (acted_by g in_order) (answers_by g (answers_given p l es))
    each_is = record {
      statements = mine;
      answered = ap (map (λ (x : Answered). x.answer)) own_acted
          ∙ acted_answers p g (acted_at p.shapes l seat es)
          ∙ ap (λ (xs : List Op). answers_by g (answers_to xs (its_answers seat there))) (acted_are seat there)
          ∙ ap (answers_by g) (sym (among_are seat there))
          ∙ by_seat p seat g its (answers_given p l es);
    }

    pub others_none : length p.goroutines ≤ g → acted_by g in_order ≡ []
    others_none le = none_acted (acted_by g in_order) (mine ∙ ap (map (statement_as_op g)) (none_beyond p g le))
