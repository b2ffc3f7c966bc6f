use Rattle.gh_cycle.proofs.Beginning.{cycles-open, opened-at-rest, registers-fit}
use Rattle.gh_cycle.proofs.opening.cycles_open.Goals as goal

pub returns-clause-open : goal.returns-clause-open
returns-clause-open c = cycles-open c.reach_is_decided.ensures.places c.reach_is_decided.ensures.made c.the_heap_is_apart.ensures

pub returns-clause-rest : goal.returns-clause-rest
returns-clause-rest c = opened-at-rest

pub returns-clause-fit : goal.returns-clause-fit
returns-clause-fit c = registers-fit
