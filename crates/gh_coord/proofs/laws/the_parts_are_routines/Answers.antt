use Rattle.gh_coord.proofs.PartsRoutines.{parts_are_routines}
use Rattle.gh_coord.proofs.laws.the_parts_are_routines.Goals as goal

pub returns : goal.returns
returns c = parts_are_routines c.packed_words_are_read_back.ensures c.the_sweep_is_a_routine.ensures
