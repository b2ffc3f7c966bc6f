use Rattle.gh_replay.proofs.Going.{none_chosen}
use Rattle.gh_replay.proofs.place.chosen.Goals as goal

pub returns-then-count-eq0 : goal.returns-then-count-eq0
returns-then-count-eq0 c = none_chosen c.args.kept.now c.args.word c.if-count-eq0.true
