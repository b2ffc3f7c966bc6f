use Rattle.gh_mutator_writes.proofs.Calm.Laws.{calm_marks_nothing}
use Rattle.gh_mutator_writes.proofs.laws.calm_processors_mark_nothing.Goals as goal

pub returns : goal.returns
returns c = calm_marks_nothing c.cells_are_told.ensures c.an_object_is_marked_before_it_is_made.ensures c.the_processor_keeps_the_handshake.ensures c.a_processor_marks_by_moves.ensures
