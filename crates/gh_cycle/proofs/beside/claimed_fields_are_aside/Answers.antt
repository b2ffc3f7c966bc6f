use Rattle.gh_cycle.proofs.Going.Slots.{fields-aside}
use Rattle.gh_cycle.proofs.beside.claimed_fields_are_aside.Goals as goal

pub returns : goal.returns
returns c = fields-aside c.the_heap_is_apart.ensures
