use Rattle.gh_cycle.proofs.Going.Beginning.{cycles-begin}
use Rattle.gh_cycle.proofs.beside.cycles_begin_beside.Goals as goal

pub returns : goal.returns
returns c = cycles-begin c.the_heap_is_apart.ensures c.reach_is_decided.ensures.made
