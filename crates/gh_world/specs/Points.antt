-- The points of a run: which statements they are, and what the heap that never frees comes to along them alone.
use Rattle.std.specs.Prelude.{◌≡◌, ℕ, zero, suc, ◌==◌, List, map, length, Option, Some, option_map}
use Rattle.gh_world.specs.Vocabulary.{acted_in, AllAnswer, Answer, Answered, Entry, Ever, ever_after_all, ever_of, filter, is_statement, Layout, Op, opening_ever, Outcome, Program, range_with_len, Shape, statement_as_op, statement_at, WellFormed, with_end}
use Rattle.gh_world.specs.Runs.{IsExplained, IsRunSoFar}
use Rattle.gh_world.specs.World.{LaysOut, points_in}

-- the statement of a goroutine and a number, counted from 1, as an operation
abbrev pub op_at_point : Program → ℕ × ℕ → Option Op
op_at_point p x = option_map (statement_as_op x.0) (statement_at p x.0 x.1)

-- the numbers that stand with goroutine g
abbrev pub numbers_with : ℕ → List (ℕ × ℕ) → List ℕ
numbers_with g points = map (λ (x : ℕ × ℕ). x.1) (filter (λ (x : ℕ × ℕ). x.0 == g) points)

-- the statements among what has acted: the ends of goroutines, polls and leaves are none
abbrev pub statements_acted : List Answered → List Answered
statements_acted acted = filter (λ (a : Answered). is_statement a.op) acted

-- The points of the list are the statements that acted in it, in their order, and those of each goroutine are its first ones.
pub record PointsAre (p : Program) (l : Layout) (es : List (Entry Op)) : Type 0 where
  pub statements : map (op_at_point p) (points_in p.shapes l es) ≡ map (λ (a : Answered). Some a.op) (statements_acted (acted_in p.shapes l es))
  pub numbers : (g : ℕ) → numbers_with g (points_in p.shapes l es) ≡ range_with_len 1 (length (numbers_with g (points_in p.shapes l es)))

-- the heap that never frees once the first n goroutines have ended
abbrev pub with_ends : Ever → (n : ℕ) → Ever
with_ends e zero = e
with_ends e (suc n) = with_end (with_ends e n) n

-- the operations, and their answers
abbrev pub ops_of : List Answered → List Op
ops_of acted = map (λ (a : Answered). a.op) acted

abbrev pub answers_of : List Answered → List Answer
answers_of acted = map (λ (a : Answered). a.answer) acted

-- the heap that never frees after these statements, answered so
abbrev pub ever_along : List Shape → List Answered → Ever
ever_along shapes acted = ever_after_all shapes opening_ever (ops_of acted) (answers_of acted)

-- Along the statements alone the heap that never frees answers as it did in the run, and it comes to the same once all goroutines end behind them.
pub record GoesAlong (p : Program) (l : Layout) (es : List (Entry Op)) : Type 0 where
  pub answers : AllAnswer p.shapes opening_ever (ops_of (statements_acted (acted_in p.shapes l es))) (answers_of (statements_acted (acted_in p.shapes l es)))
  pub ever : with_ends (ever_along p.shapes (statements_acted (acted_in p.shapes l es))) (length p.goroutines) ≡ ever_of p.shapes l es

-- ---- laws

-- Whatever the script, and whatever run of it so far.
abbrev pub PointsAreStatements : Type 0
PointsAreStatements = (p : Program) (l : Layout) (es : List (Entry Op)) → WellFormed p → LaysOut p l → IsRunSoFar p l es → PointsAre p l es

-- Whatever the script, and whatever whole run of it.
abbrev pub StatementsAreEnough : Type 0
StatementsAreEnough = (p : Program) (l : Layout) (es : List (Entry Op)) (o : Outcome) → WellFormed p → LaysOut p l → IsExplained p l es o → GoesAlong p l es
