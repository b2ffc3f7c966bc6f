-- What a replay answers, and what stands where it ran out of turns.
use Rattle.std.specs.Prelude.{◌≡◌, ℕ, ◌<◌, ◌≤◌, ◌⊎◌, false, List, length}
use Rattle.gh_replay.specs.Vocabulary.{ended_after, Entry, IsExplained, IsRunSoFar, Layout, LaysOut, Op, Outcome, Program, setting_of, WellFormed}
use Rattle.gh_replay.specs.Plan.{Plan}
use Rattle.gh_replay.specs.Scheduled.{IsScheduled}

-- The actors step as the schedule says through a whole run of the script, of at most so many turns, and what the run comes to is explained: the heap that never frees answers so, save `full`, which stands only where nothing fitted; each cycle has these numbers, and frees what no script reached when it began; and so much is what the globals hold at the end.
pub record IsReplayed (p : Program) (plan : Plan) (budget : ℕ) (outcome : Outcome) : Type 0 where
  pub layout : Layout
  pub lays_out : LaysOut p layout
  pub turns : List (Entry Op)
  pub few : length turns ≤ budget
  pub scheduled : IsScheduled p layout plan turns
  pub explained : IsExplained p layout turns outcome

-- the actors have taken so many turns in the script's run, as the schedule says, and one of them is not done
pub record IsUnfinished (p : Program) (plan : Plan) (n : ℕ) : Type 0 where
  pub layout : Layout
  pub lays_out : LaysOut p layout
  pub turns : List (Entry Op)
  pub so_far : IsRunSoFar p layout turns
  pub scheduled : IsScheduled p layout plan turns
  pub long : length turns ≡ n
  pub who : ℕ
  pub there : who < (setting_of p layout).actors
  pub going : ended_after (setting_of p layout) turns who ≡ false

-- By one schedule a script's run either ends within the budget or does not, and comes to one outcome, whatever the budget.
abbrev pub NotBoth : Type 0
NotBoth = (p : Program) (plan : Plan) (budget : ℕ) (outcome : Outcome) → IsReplayed p plan budget outcome → IsUnfinished p plan budget → ⊥

abbrev pub OneOutcome : Type 0
OneOutcome = (p : Program) (plan : Plan) (m n : ℕ) (outcome other : Outcome) → IsReplayed p plan m outcome → IsReplayed p plan n other → outcome ≡ other

-- By one schedule a script's run either ends within the budget or does not: one of the two.
abbrev pub EitherOne : Type 0
EitherOne = (p : Program) (plan : Plan) (budget : ℕ) → WellFormed p → ((outcome : Outcome) × IsReplayed p plan budget outcome) ⊎ IsUnfinished p plan budget
