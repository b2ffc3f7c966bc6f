-- What a schedule says.
use Rattle.std.specs.Prelude.{ℕ, List, [], Option, None}
use Rattle.gh_replay.specs.Vocabulary.{Turn}

-- the items of its list, and the seed for what comes behind them
pub record Plan : Type 0 where
  pub list : List Turn
  pub seed : Option ℕ

-- one that says nothing
abbrev pub no_plan : Plan
no_plan = record { list = []; seed = None }
