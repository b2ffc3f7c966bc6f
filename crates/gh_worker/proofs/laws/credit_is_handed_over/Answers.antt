use Rattle.gh_worker.proofs.Earning.{earns}
use Rattle.gh_worker.proofs.laws.credit_is_handed_over.Goals as goal

pub returns : goal.returns
returns c = earns
