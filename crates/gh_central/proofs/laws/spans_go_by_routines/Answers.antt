use Rattle.std.proofs.Common.{arith}
use Rattle.gh_central.proofs.Passing.Sound as swept
use Rattle.gh_central.proofs.Reclaiming.Sound as reclaim
use Rattle.gh_central.proofs.Sweeping.Sound as unswept
use Rattle.gh_central.proofs.laws.spans_go_by_routines.Goals as goal

pub returns-clause-give : goal.returns-clause-give
returns-clause-give c = grind arith

pub returns-clause-swept : goal.returns-clause-swept
returns-clause-swept c = swept.is_routine c.packed_words_are_read_back.ensures

pub returns-clause-unswept : goal.returns-clause-unswept
returns-clause-unswept c l = unswept.is_routine c.packed_words_are_read_back.ensures l (c.the_sweep_is_a_routine.ensures l)

pub returns-clause-reclaim : goal.returns-clause-reclaim
returns-clause-reclaim c l = reclaim.is_routine c.packed_words_are_read_back.ensures l (c.the_sweep_is_a_routine.ensures l)
