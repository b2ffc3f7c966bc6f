use Rattle.gh_cycle.proofs.Going.Reserving.{slots-reserved}
use Rattle.gh_cycle.proofs.beside.slots_are_reserved.Goals as goal

pub returns : goal.returns
returns c = slots-reserved c.size_class_laws.ensures.least_slot c.the_heap_is_apart.ensures
