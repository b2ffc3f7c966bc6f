-- The statements of a whole run, as the heap that never frees is run along them.
use Rattle.std.proofs.Common.{◌≡◌, ℕ, ◌&&◌, Bool, true, false, cond, eqb, List, [], ◌∷◌, map, length, Option, Some, None, refl, sym, ap, ◌∙◌, IfSome}
use Rattle.gh_replay.proofs.Vocabulary.{acted_by, acted_in, Answer, Answered, answers_by, answers_of, AreAlong, Entry, ever_at_end, ever_of, EveryOrderHasOneRun, HaveStatements, is_statement, IsEverAfter, IsExplained, IsReplayed, its_goroutine, Layout, LaysOut, length-map, Lists, Op, op_at_point, Outcome, Plan, points_in, PointsAreStatements, Program, statement_as_op, statements_acted, statements_of, StatementsAreEnough, WellFormed}
use Rattle.gh_lists.specs.Order as run
use Rattle.gh_replay.proofs.OneOutcome.{one_ever}
use Rattle.gh_replay.proofs.OneRun.{is_so_far}

-- a goroutine's statements are among all statements
its_statements : (g : ℕ) (xs : List Answered) → acted_by g (statements_acted xs) ≡ acted_by g xs
its_statements g [] = refl
its_statements g (x ∷ xs) = go (is_statement x.op) (eqb (its_goroutine x.op) g) refl refl (its_statements g xs) where
  go : (b c : Bool) → is_statement x.op ≡ b → eqb (its_goroutine x.op) g ≡ c → acted_by g (statements_acted xs) ≡ acted_by g xs → acted_by g (cond b (x ∷ statements_acted xs) (statements_acted xs)) ≡ cond (b && c) (x ∷ acted_by g xs) (acted_by g xs)
  go false c e f ih = ih
  go true c e f ih = ap (λ (d : Bool). cond d (x ∷ acted_by g (statements_acted xs)) (acted_by g (statements_acted xs))) (ap (λ (d : Bool). d && eqb (its_goroutine x.op) g) e ∙ f) ∙ ap (λ (ys : List Answered). cond c (x ∷ ys) ys) ih

abbrev pub statements_in : Program → Layout → List (Entry Op) → List Answered
statements_in p l es = statements_acted (acted_in p.shapes l es)

module _ (points : PointsAreStatements) (enough : StatementsAreEnough) (p : Program) (l : Layout) (formed : WellFormed p) (lays : LaysOut p l) (es : List (Entry Op)) (o : Outcome) (x : IsExplained p l es o) where
  pub are_along : (at : List (ℕ × ℕ)) (answers : List (ℕ × Answer)) → at ≡ points_in p.shapes l es → answers ≡ o.answers → AreAlong p at answers (statements_in p l es)
  are_along at answers pointed given = record {
    statements = ap (map (op_at_point p)) pointed ∙ (points p l es formed lays (is_so_far p l es x.run)).statements;
    counted = λ g. ap length (its_statements g (acted_in p.shapes l es)) ∙ sym (length-map (acted_by g (acted_in p.shapes l es)) (λ (a : Answered). a.op)) ∙ ap length (x.each g).statements ∙ length-map (statements_of p g) (statement_as_op g);
    given = λ g. ap (answers_by g) given ∙ sym (x.each g).answered ∙ ap answers_of (sym (its_statements g (acted_in p.shapes l es)));
    ever = (enough p l es o formed lays x).answers;
  }

  pub comes_to : ever_at_end p (statements_in p l es) ≡ run.ever_of p.shapes l es
  comes_to = (enough p l es o formed lays x).ever

-- the list that the schedule gives, with the statements at these points, answered so
pub record RunsBeside (p : Program) (plan : Plan) (budget : ℕ) (outcome : Outcome) (points : List (ℕ × ℕ)) (answers : List (ℕ × Answer)) : Type 0 where
  pub replayed : IsReplayed p plan budget outcome
  pub along : AreAlong p points answers (statements_in p replayed.layout replayed.turns)
  pub comes_to : ever_at_end p (statements_in p replayed.layout replayed.turns) ≡ run.ever_of p.shapes replayed.layout replayed.turns

pub have_statements : (p : Program) (plan : Plan) (budget : ℕ) (outcome : Outcome) (points at : List (ℕ × ℕ)) (answers given : List (ℕ × Answer)) → RunsBeside p plan budget outcome points answers → at ≡ points → given ≡ answers → HaveStatements p at given
have_statements p plan budget outcome points at answers given b e f = rw (e, f) (statements_in p b.replayed.layout b.replayed.turns, b.along)

-- what is run along them is what every such list leaves
pub ever_after : EveryOrderHasOneRun → (p : Program) (plan : Plan) (budget : ℕ) (outcome : Outcome) (points at : List (ℕ × ℕ)) (answers given : List (ℕ × Answer)) (ever : Option Lists) → RunsBeside p plan budget outcome points answers → at ≡ points → given ≡ answers →
    ((xs : List Answered) → AreAlong p at given xs → IfSome ever (λ lists. ever_of lists ≡ ever_at_end p xs)) → IfSome ever (IsEverAfter p plan budget outcome)
ever_after ordered p plan budget outcome points at answers given ever b e f after = go ever (after (statements_in p b.replayed.layout b.replayed.turns) (rw (e, f) b.along)) where
  go : (o : Option Lists) → IfSome o (λ lists. ever_of lists ≡ ever_at_end p (statements_in p b.replayed.layout b.replayed.turns)) → IfSome o (IsEverAfter p plan budget outcome)
  go None h = tt
  go (Some lists) h = λ r. h ∙ b.comes_to ∙ one_ever ordered p plan budget budget outcome outcome b.replayed r
