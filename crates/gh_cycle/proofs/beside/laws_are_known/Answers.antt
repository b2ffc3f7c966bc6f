use Rattle.gh_cycle.proofs.beside.laws_are_known.Goals as goal

pub returns : goal.returns
returns c = record {
  rows = c.rows_are_written.ensures;
  apart = c.the_heap_is_apart.ensures;
  made = c.reach_is_decided.ensures.made;
  reaches = c.no_more_is_reached.ensures;
  heap_keeps = c.each_move_keeps.ensures;
  heap_leaves = c.each_move_leaves.ensures;
  heap_facts = c.facts_last.ensures.last;
  keeps = c.each_move_keeps-2.ensures;
  leaves = c.each_move_leaves-2.ensures;
  own = c.own_moves_leave.ensures.leave;
  steps = c.steps_go_by_moves.ensures;
  hands = c.hands_follow.ensures;
}
