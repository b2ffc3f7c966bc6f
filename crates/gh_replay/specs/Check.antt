-- What a run is to the heap that never frees beside it.
use Rattle.std.specs.Prelude.{◌≡◌, ℕ, List, drop, map, length, slice_index, Some}
use Rattle.gh_replay.specs.Vocabulary.{acted_by, Answer, answers_by, counts_of, ever_of, Lists, Outcome, Program}
use Rattle.gh_model.specs.Answers.{AllAnswer}
use Rattle.gh_model.specs.Ever.{Ever, opening_ever}
use Rattle.gh_lists.specs.Order.{Answered}
use Rattle.gh_lists.specs.Order as run
use Rattle.gh_world.specs.Points.{answers_of, ever_along, op_at_point, ops_of, with_ends}
use Rattle.gh_world.specs.Turns.{count_of}
use Rattle.gh_replay.specs.declared.check.Told.{Told}
use Rattle.gh_replay.specs.Plan.{Plan}
use Rattle.gh_replay.specs.Replayed.{IsReplayed}

-- These statements stand at the points, in their order; of each goroutine they are as many as it has, and their answers are those that it was given, one for one; and the heap that never frees answers so, save `full`.
pub record AreAlong (p : Program) (points : List (ℕ × ℕ)) (answers : List (ℕ × Answer)) (xs : List Answered) : Type 0 where
  pub statements : map (op_at_point p) points ≡ map (λ (x : Answered). Some x.op) xs
  pub counted : (g : ℕ) → length (acted_by g xs) ≡ count_of p g
  pub given : (g : ℕ) → answers_by g answers ≡ answers_of (acted_by g xs)
  pub ever : AllAnswer p.shapes opening_ever (ops_of xs) (answers_of xs)

-- there are such statements
abbrev pub HaveStatements : Program → List (ℕ × ℕ) → List (ℕ × Answer) → Type 0
HaveStatements p points answers = (xs : List Answered) × AreAlong p points answers xs

-- the lists before any statement of the script
pub record AreOpeningLists (p : Program) (lists : Lists) : Type 0 where
  pub shapes : lists.shapes ≡ p.shapes
  pub left : lists.left ≡ counts_of p
  pub ever : ever_of lists ≡ opening_ever

-- the heap that never frees after these statements, once all goroutines have ended
abbrev pub ever_at_end : Program → List Answered → Ever
ever_at_end p xs = with_ends (ever_along p.shapes xs) (length p.goroutines)

-- The lists stand for the heap that never frees after the run, whichever list of turns it is that the schedule gives.
abbrev pub IsEverAfter : Program → Plan → ℕ → Outcome → Lists → Type 0
IsEverAfter p plan budget outcome lists = (r : IsReplayed p plan budget outcome) → ever_of lists ≡ run.ever_of p.shapes r.layout r.turns

-- Of the code's own.

-- the answers of goroutine g that are not taken yet
abbrev pub answers_untaken : Told → ℕ → List Answer
answers_untaken told g = answers_by g (drop (slice_index told.places g) told.answers.now)
