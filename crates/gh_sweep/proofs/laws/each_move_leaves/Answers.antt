use Rattle.gh_sweep.proofs.Sharing.Leaves.{done_stays, leaves}
use Rattle.gh_sweep.proofs.laws.each_move_leaves.Goals as goal

pub returns-clause-leaves : goal.returns-clause-leaves
returns-clause-leaves c = leaves (record { packed = c.packed_words_are_read_back.ensures; slots = c.size_class_laws.ensures.greatest_slot })

pub returns-clause-done : goal.returns-clause-done
returns-clause-done c = done_stays
