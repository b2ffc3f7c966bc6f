use Rattle.gh_cycle.proofs.Knowing.{objects-known-beside}
use Rattle.gh_cycle.proofs.beside.objects_are_known_beside.Goals as goal

pub returns : goal.returns
returns c = objects-known-beside c.size_class_laws.ensures.least_slot c.the_heap_is_apart.ensures
