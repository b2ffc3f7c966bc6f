use Rattle.gh_replay.proofs.InTurn.{said_nothing}
use Rattle.gh_replay.proofs.laws.nothing_said_is_in_turn.Goals as goal

pub returns : goal.returns
returns c = said_nothing
