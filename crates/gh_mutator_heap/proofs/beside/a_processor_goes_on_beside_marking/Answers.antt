use Rattle.gh_mutator_heap.proofs.Going.Processor.{goes_on_beside}
use Rattle.gh_mutator_heap.proofs.beside.a_processor_goes_on_beside_marking.Goals as goal

pub returns : goal.returns
returns c = goes_on_beside (record {
  rows = c.rows_are_written.ensures;
  deeds = c.deeds_go_beside.ensures;
  alone = c.marking_alone_goes_beside.ensures;
  objects = c.objects_are_known_beside.ensures;
  aside = c.claimed_fields_are_aside.ensures;
  reserve = c.slots_are_reserved.ensures;
  follow = c.hands_follow.ensures;
  leave = c.own_moves_leave.ensures.leave;
  writes = c.writes_by_moves.ensures;
  assists = c.assists_by_moves.ensures;
  own = c.a_processor_writes_its_own.ensures;
  notes = c.stacks_are_noted.ensures;
  marks = c.a_processor_marks_by_moves.ensures;
})
