-- What the code knows of a world and of where a schedule stands.
use Rattle.std.specs.Prelude.{◌≡◌, ℕ, ◌<◌, ◌≤◌, true, false, List, [], drop, length, IfSome, None}
use Rattle.gh_replay.specs.Vocabulary.{actors_of, AllDone, Answer, answers_given, Entry, is_done, layout_of, marks_of, Op, script_of, State}
use Rattle.gh_base.specs.Cells.{seats_of}
use Rattle.gh_world.specs.After.{IsAfter}
use Rattle.gh_replay.specs.declared.place.Place.{Place}
use Rattle.gh_replay.specs.Plan.{Plan}
use Rattle.gh_replay.specs.Scheduled.{IsScheduled}
use Rattle.gh_replay.specs.Standing.{ActorsSoFar, going, Standing}

-- what the actors of a world have come to
abbrev pub seen_of : State → ActorsSoFar
seen_of w = record { actors = actors_of w; ended = is_done w; marks = marks_of w }

-- where the schedule stands there
abbrev pub standing_at : Place → Standing
standing_at c = record { items = drop c.at c.list.items; next = c.next; drawn = c.drawn }

-- no actor has ended
abbrev pub AllGoOn : State → Type 0
AllGoOn w = (a : ℕ) → a < actors_of w → is_done w a ≡ false

-- the actors take turns, and all of them: no item is to come, nothing is drawn, and none has ended
pub record InRounds (c : Place) (w : State) : Type 0 where
  pub items : drop c.at c.list.items ≡ []
  pub drawn : c.drawn ≡ None
  pub all : AllGoOn w

-- It knows how many actors there are, and where it says that all take turns, that is so. Where a generator draws, those that have not ended are kept.
pub record KnowsThoseGoing (c : Place) (kept : List ℕ) (w : State) : Type 0 where
  pub actors : c.actors ≡ actors_of w
  pub seats : actors_of w ≡ seats_of (layout_of w)
  pub rounds : c.in_rounds ≡ true → InRounds c w
  pub some : IfSome c.drawn (λ x. kept ≡ going (seen_of w))

-- the world has taken turns within the budget, all of it where it is not done, and has answered so
pub record RanWithinBudget (w : State) (plan : Plan) (budget : ℕ) (answers : List (ℕ × Answer)) : Type 0 where
  pub turns : List (Entry Op)
  pub after : IsAfter w turns
  pub few : length turns ≤ budget
  pub scheduled : IsScheduled (script_of w) (layout_of w) plan turns
  pub all : ¬ AllDone w → length turns ≡ budget
  pub given : answers ≡ answers_given (script_of w) (layout_of w) turns
