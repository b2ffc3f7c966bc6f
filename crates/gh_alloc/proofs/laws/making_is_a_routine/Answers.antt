use Rattle.gh_alloc.proofs.Placing.Sound.{is_routine}
use Rattle.gh_alloc.proofs.laws.making_is_a_routine.Goals as goal

pub returns : goal.returns
returns c l = is_routine l (c.setting_is_a_routine.ensures l) (c.spans_go_by_routines.ensures.give l)
