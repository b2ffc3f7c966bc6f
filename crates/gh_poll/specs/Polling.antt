-- A poll, and what the processor alone knows.
use Rattle.std.specs.Prelude.{ℕ, Bool}
use Rattle.gh_poll.specs.Vocabulary.{Local, PollStage}

-- whether it is a part of a wait, what the processor alone knows, and its stage
pub record Polling : Type 0 where
  pub seat : ℕ
  pub waits : Bool
  pub local : Local
  pub stage : PollStage
