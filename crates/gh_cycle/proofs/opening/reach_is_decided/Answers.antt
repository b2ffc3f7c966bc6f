use Rattle.gh_cycle.proofs.Reaching.{places-decided, reach-decided, reached-made}
use Rattle.gh_cycle.proofs.opening.reach_is_decided.Goals as goal

pub returns-clause-names : goal.returns-clause-names
returns-clause-names c = reach-decided

pub returns-clause-places : goal.returns-clause-places
returns-clause-places c = places-decided

pub returns-clause-made : goal.returns-clause-made
returns-clause-made c = reached-made
