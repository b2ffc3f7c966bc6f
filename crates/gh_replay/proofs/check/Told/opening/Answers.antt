use Rattle.gh_base.specs.declared.limits.TheConstants.{MOST_GOROUTINES}
use Rattle.gh_replay.proofs.Taking.{from_first}
use Rattle.gh_replay.proofs.check.Told.opening.Goals as goal

pub returns : goal.returns
returns c = λ g. from_first MOST_GOROUTINES g c.args.answers.now
