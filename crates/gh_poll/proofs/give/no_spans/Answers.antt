use Rattle.gh_poll.proofs.Giving.{none_fits}
use Rattle.gh_poll.proofs.give.no_spans.Goals as goal

pub returns-clause-fits : goal.returns-clause-fits
returns-clause-fits c = none_fits
