-- The lists of steps that a schedule gives.
use Rattle.std.specs.Prelude.{◌≡◌, ◌↔◌, ℕ, List, [], ◌∷◌, Some}
use Rattle.gh_replay.specs.Vocabulary.{actor_after, ended_after, Entry, IsInTurn, Layout, marks_at, marks_by, Op, Program, setting_of, Turn, Without}
use Rattle.gh_replay.specs.Plan.{no_plan, Plan}
use Rattle.gh_replay.specs.Standing.{ActorsSoFar, moved, opening, Standing, to_come, who}

module _ (p : Program) (l : Layout) where
  -- what the actors have come to after the list
  abbrev pub reached_in : List (Entry Op) → ActorsSoFar
  reached_in es = record { actors = (setting_of p l).actors; ended = ended_after (setting_of p l) es; marks = λ a. marks_by (marks_at p.shapes l a es) (actor_after p l es a) }

  -- where the schedule stands after the list
  abbrev pub stands_in : Plan → List (Entry Op) → Standing
  stands_in plan [] = opening plan
  stands_in plan (e ∷ es) = moved (reached_in es) e.actor (stands_in plan es)

  -- Each step is by whoever the schedule says then.
  abbrev pub IsScheduled : Plan → List (Entry Op) → Type 0
  IsScheduled plan [] = Unit {0}
  IsScheduled plan (e ∷ es) = IsScheduled plan es × (who (reached_in es) (stands_in plan es) ≡ Some e.actor)

-- Where a schedule says nothing the actors take turns in ascending order.
abbrev pub NothingSaidIsInTurn : Type 0
NothingSaidIsInTurn = (p : Program) (l : Layout) (es : List (Entry Op)) → IsScheduled p l no_plan es ↔ IsInTurn (setting_of p l) es

-- By an item without an actor that actor takes no turn.
abbrev pub OthersTakeTurns : Type 0
OthersTakeTurns = (p : Program) (l : Layout) (plan : Plan) (e : Entry Op) (es : List (Entry Op)) (a n : ℕ) (more : List Turn) → IsScheduled p l plan (e ∷ es) → to_come (reached_in p l es) (stands_in p l plan es).items ≡ record { actor = a; until = Without n } ∷ more → e.actor ≡ a → ⊥
