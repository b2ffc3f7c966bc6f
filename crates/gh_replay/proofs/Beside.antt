-- The heap that never frees among the statements of a run: how it stands behind the first of them.
use Rattle.std.proofs.Common.{◌≡◌, ℕ, ◌+◌, ◌-◌, ◌<◌, ◌≤◌, Bool, true, false, cond, eqb, ◌&&◌, List, ◌∷◌, map, length, drop, get_or, Option, Some, None, refl, sym, ap, subst, ◌∙◌, arith, inl, inr, option_map, slice_get}
use Rattle.std.proofs.lemmas.Bool.{eq-eqb, eqb-true}
use Rattle.std.proofs.lemmas.List.{get_or-set_other, get_or-set_same, length-set}
use Rattle.gh_replay.proofs.Vocabulary.{acted_by, AllAnswer, Answer, Answered, answers_of, answers_untaken, AreAlong, cases_lt, drop_more, Ever, ever_after, ever_after_all, ever_along, ever_of, get_or_past, Goroutine, is_statement, is_statement_of, its_goroutine, length-map, Lists, no_goroutine, Op, op_at_point, ops_of, Program, set, slice_get-get_or, slice_get-map, statement_as_op, statement_at}
use Rattle.gh_ever.specs.Applied.{given_answer, IsDue, spent}
use Rattle.gh_script.specs.declared.statement.Stmt.{Stmt}
use Rattle.gh_replay.specs.declared.check.Told.{Told}

-- ---- statements

statement_is : (g : ℕ) (s : Stmt) → is_statement (statement_as_op g s) ≡ true
statement_is g s = grind arith

goroutine_is : (g : ℕ) (s : Stmt) → its_goroutine (statement_as_op g s) ≡ g
goroutine_is g s = grind arith

-- a goroutine that there is not has none
none_beyond : (p : Program) (g n : ℕ) → length p.goroutines ≤ g → statement_at p g n ≡ None
none_beyond p g n le = ap (λ (x : Goroutine). cond (eqb n 0) None (slice_get x.statements (n - 1))) (get_or_past p.goroutines g no_goroutine le) ∙ go (eqb n 0) where
  go : (b : Bool) → cond {A = Option Stmt} b None None ≡ None
  go true = refl
  go false = refl

-- what stands at a point is a statement of that goroutine, which there is
record IsThere (p : Program) (g : ℕ) (o : Op) : Type 0 where
  below : g < length p.goroutines
  statement : is_statement o ≡ true
  its : its_goroutine o ≡ g

is_there : (p : Program) (g n : ℕ) (o : Op) → op_at_point p (g, n) ≡ Some o → IsThere p g o
is_there p g n o at = go (statement_at p g n) refl at where
  go : (s : Option Stmt) → statement_at p g n ≡ s → option_map (statement_as_op g) s ≡ Some o → IsThere p g o
  go None e f = absurd cc
  go (Some s) e f =
      let is : statement_as_op g s ≡ o = cc in
      record {
        below = elim (cases_lt g (length p.goroutines)) [
          | inl lt ↦ lt
          | inr le ↦ absurd (let none = none_beyond p g n le in cc)
        ];
        statement = ap is_statement (sym is) ∙ statement_is g s;
        its = ap its_goroutine (sym is) ∙ goroutine_is g s;
      }

-- ---- among the statements

-- so it stands among these statements where the rest is to come: of each goroutine as many statements are to come, and the answers of these are still to be taken
pub record Midway (p : Program) (xs rest : List Answered) (taken : Told) (lists : Lists) : Type 0 where
  pub shapes : lists.shapes ≡ p.shapes
  pub many : length lists.left ≡ length p.goroutines
  pub left : (g : ℕ) → g < length p.goroutines → get_or lists.left g 0 ≡ length (acted_by g rest)
  pub told : (g : ℕ) → g < length p.goroutines → answers_untaken taken g ≡ answers_of (acted_by g rest)
  pub answers : AllAnswer p.shapes (ever_of lists) (ops_of rest) (answers_of rest)
  pub ends : ever_after_all p.shapes (ever_of lists) (ops_of rest) (answers_of rest) ≡ ever_along p.shapes xs

-- What is behind an operation of goroutine g that is given this answer: one of its statements less is to come, and one of its answers is taken.
pub record Takes (p : Program) (g : ℕ) (o : Op) (a : Answer) (told told_then : Told) (lists then : Lists) : Type 0 where
  pub shapes : then.shapes ≡ lists.shapes
  pub left : then.left ≡ spent lists.left g
  pub after : ever_of then ≡ ever_after p.shapes (ever_of lists) o (given_answer p.shapes (ever_of lists) o (Some a))
  pub taken : (h : ℕ) → answers_untaken told_then h ≡ cond (eqb h g) (drop 1 (answers_untaken told h)) (answers_untaken told h)

-- the next statement
module _ (p : Program) (xs more : List Answered) (x : Answered) (told : Told) (lists : Lists) (g n : ℕ) (m : Midway p xs (x ∷ more) told lists) (at : op_at_point p (g, n) ≡ Some x.op) where
  here : IsThere p g x.op
  here = is_there p g n x.op at

  pub there : g < length p.goroutines
  there = here.below

  test : (h : ℕ) → is_statement_of h x.op ≡ eqb g h
  test h = ap (λ (b : Bool). b && eqb (its_goroutine x.op) h) here.statement ∙ ap (λ (k : ℕ). eqb k h) here.its

  own : acted_by g (x ∷ more) ≡ x ∷ acted_by g more
  own = ap (λ (b : Bool). cond b (x ∷ acted_by g more) (acted_by g more)) (test g ∙ eq-eqb g g refl)

  others : (h : ℕ) → (h ≡ g → ⊥) → acted_by h (x ∷ more) ≡ acted_by h more
  others h other = go (eqb g h) refl where
    go : (b : Bool) → eqb g h ≡ b → acted_by h (x ∷ more) ≡ acted_by h more
    go true e = absurd (other (sym (eqb-true g h e)))
    go false e = ap (λ (b : Bool). cond b (x ∷ acted_by h more) (acted_by h more)) (test h ∙ e)

  pub due : IsDue lists g
  due = let many = m.many in let left = m.left g there in let one = ap length own in (omega (arith, many, there), omega (arith, left, one))

  pub first : slice_get (answers_untaken told g) 0 ≡ Some x.answer
  first = ap (λ (as' : List Answer). slice_get as' 0) (m.told g there ∙ ap answers_of own)

  pub given : given_answer p.shapes (ever_of lists) x.op (Some x.answer) ≡ x.answer
  given = grind arith

  -- and behind it
  module _ (told_then : Told) (then : Lists) (t : Takes p g x.op x.answer told told_then lists then) where
    left_then : (h : ℕ) → h < length p.goroutines → get_or then.left h 0 ≡ length (acted_by h more)
    left_then h lt = ap (λ (ns : List ℕ). get_or ns h 0) t.left ∙ go (eqb h g) refl where
      go : (b : Bool) → eqb h g ≡ b → get_or (set lists.left g (get_or lists.left g 0 - 1)) h 0 ≡ length (acted_by h more)
      go true e =
          let same : h ≡ g = eqb-true h g e in
          let was = m.left g there in
          let one = ap length own in
          rw same (get_or-set_same lists.left g (get_or lists.left g 0 - 1) 0 due.0 ∙ omega (arith, was, one))
      go false e =
          let other : h ≡ g → ⊥ = λ same. let no : eqb h g ≡ true = eq-eqb h g same in absurd cc in
          get_or-set_other lists.left g h (get_or lists.left g 0 - 1) 0 other ∙ m.left h lt ∙ ap length (others h other)

    told_are : (h : ℕ) → h < length p.goroutines → answers_untaken told_then h ≡ answers_of (acted_by h more)
    told_are h lt = t.taken h ∙ go (eqb h g) refl where
      go : (b : Bool) → eqb h g ≡ b → cond b (drop 1 (answers_untaken told h)) (answers_untaken told h) ≡ answers_of (acted_by h more)
      go true e = let same : h ≡ g = eqb-true h g e in rw same (ap (drop 1) (m.told g there ∙ ap answers_of own))
      go false e =
          let other : h ≡ g → ⊥ = λ same. let no : eqb h g ≡ true = eq-eqb h g same in absurd cc in
          m.told h lt ∙ ap answers_of (others h other)

    after_is : ever_of then ≡ ever_after p.shapes (ever_of lists) x.op x.answer
    after_is = t.after ∙ ap (ever_after p.shapes (ever_of lists) x.op) given

    pub goes_on : Midway p xs more told_then then
    goes_on = record {
      shapes = t.shapes ∙ m.shapes;
      many = ap length t.left ∙ length-set lists.left g (get_or lists.left g 0 - 1) ∙ m.many;
      left = left_then;
      told = told_are;
      answers = subst (λ (e : Ever). AllAnswer p.shapes e (ops_of more) (answers_of more)) (sym after_is) m.answers.1;
      ends = ap (λ (e : Ever). ever_after_all p.shapes e (ops_of more) (answers_of more)) after_is ∙ m.ends;
    }

-- ---- by the points

abbrev pub none_yet : Answered
none_yet = record { op = Op.Poll; answer = Answer.Done }

module _ (p : Program) (points : List (ℕ × ℕ)) (answers : List (ℕ × Answer)) (xs : List Answered) (along : AreAlong p points answers xs) where
  pub as_many : length xs ≡ length points
  as_many = sym (length-map xs (λ (x : Answered). Some x.op)) ∙ ap length (sym along.statements) ∙ length-map points (op_at_point p)

  -- at this point
  module _ (i : ℕ) (lt : i < length points) where
    abbrev point : ℕ × ℕ
    point = get_or points i (0, 0)

    abbrev next : Answered
    next = get_or xs i none_yet

    pub point_at : op_at_point p point ≡ Some next.op
    point_at =
        let many = as_many in
        let left : slice_get (map (op_at_point p) points) i ≡ Some (op_at_point p point) = slice_get-map (op_at_point p) points i ∙ ap (option_map (op_at_point p)) (slice_get-get_or points i (0, 0) lt) in
        let right : slice_get (map (λ (x : Answered). Some x.op) xs) i ≡ Some (Some next.op) = slice_get-map (λ (x : Answered). Some x.op) xs i ∙ ap (option_map (λ (x : Answered). Some x.op)) (slice_get-get_or xs i none_yet (omega (arith, many, lt))) in
        let both : Some (op_at_point p point) ≡ Some (Some next.op) = sym left ∙ ap (λ (os : List (Option Op)). slice_get os i) along.statements ∙ right in
        cc

    module _ (told : Told) (lists : Lists) (m : Midway p xs (drop i xs) told lists) where
      pub before_it : Midway p xs (next ∷ drop (i + 1) xs) told lists
      before_it = let many = as_many in subst (λ (rest : List Answered). Midway p xs rest told lists) (drop_more xs i none_yet (omega (arith, many, lt))) m

      pub next_there : point.0 < length p.goroutines
      next_there = there p xs (drop (i + 1) xs) next told lists point.0 point.1 before_it point_at

      pub next_due : IsDue lists point.0
      next_due = due p xs (drop (i + 1) xs) next told lists point.0 point.1 before_it point_at

      -- it is told the answer that the statement was given, and answers it so
      module _ (a : Option Answer) (taken : a ≡ slice_get (answers_untaken told point.0) 0) where
        pub told_is : a ≡ Some next.answer
        told_is = grind (arith, before_it, first, point_at)

        pub told_some : a ≡ None → ⊥
        told_some none = let no : None ≡ Some next.answer = sym none ∙ told_is in cc

        pub told_so : (b : Answer) → a ≡ Some b → b ≡ next.answer
        told_so b is = let same : Some b ≡ Some next.answer = sym is ∙ told_is in cc

        pub next_given : (b : Answer) → a ≡ Some b → given_answer p.shapes (ever_of lists) next.op (Some b) ≡ b
        next_given b is = grind (arith, before_it, given, point_at, told_so)

        pub next_goes_on : (b : Answer) → a ≡ Some b → (told_then : Told) (then : Lists) → Takes p point.0 next.op b told told_then lists then → Midway p xs (drop (i + 1) xs) told_then then
        next_goes_on b is told_then then t =
            goes_on p xs (drop (i + 1) xs) next told lists point.0 point.1 before_it point_at told_then then (subst (λ (x : Answer). Takes p point.0 next.op x told told_then lists then) (told_so b is) t)
