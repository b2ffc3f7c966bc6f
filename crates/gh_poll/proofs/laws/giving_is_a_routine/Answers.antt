use Rattle.gh_poll.proofs.Sound as sound
use Rattle.gh_poll.proofs.laws.giving_is_a_routine.Goals as goal

pub returns : goal.returns
returns c l = sound.giving_is_a_routine l (record { buffers = c.giving_back_is_a_routine.ensures l; some_page = c.size_class_laws.ensures.some_page })
