use Rattle.gh_cycle.proofs.GoneOn.{cycles-begin-so}
use Rattle.gh_cycle.proofs.since.cycles_begin_so.Goals as goal

pub returns : goal.returns
returns c = cycles-begin-so c.the_heap_is_apart.ensures c.reach_is_decided.ensures.made
