use Rattle.gh_replay.proofs.ByOthers.{by_others}
use Rattle.gh_replay.proofs.laws.others_take_turns.Goals as goal

pub returns : goal.returns
returns c = by_others
