use Rattle.gh_mutator.proofs.Marking.{marks_by_moves}
use Rattle.gh_mutator.proofs.laws.a_processor_marks_by_moves.Goals as goal

pub returns : goal.returns
returns c = marks_by_moves (record {
  last = c.facts_last.ensures.hands;
  follow = c.hands_follow.ensures;
  leave = c.own_moves_leave.ensures.leave;
  go_on = c.own_moves_leave.ensures.go_on;
  steps = c.steps_go_by_moves.ensures;
  buffers = c.buffers_pass_by_moves.ensures;
  shade = c.shades_by_moves.ensures;
  stacks = c.stacks_are_scanned_by_moves.ensures;
}) c.polls_by_moves.ensures c.waits_by_moves.ensures c.leaves_by_moves.ensures c.writes_by_moves.ensures c.assists_by_moves.ensures
