use Rattle.gh_assist.proofs.laws.assist_is_a_routine.Goals as goal
use Rattle.gh_assist.proofs.Sound.{is_routine}

pub returns : goal.returns
returns c l = is_routine l (c.drawing_is_a_routine.ensures l) (c.entry_taking_is_a_routine.ensures l) (c.scan_is_a_routine.ensures l)
