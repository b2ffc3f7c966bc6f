use Rattle.gh_barrier.proofs.Within.{is-routine}
use Rattle.gh_barrier.proofs.laws.writing_is_a_routine.Goals as goal

pub returns : goal.returns
returns c = is-routine c.footprints_hold.ensures c.shading_is_a_routine.ensures
