use Rattle.gh_assist.proofs.laws.assists_by_moves.Goals as goal
use Rattle.gh_assist.proofs.Marking.{assists_by_moves}

pub returns : goal.returns
returns c = assists_by_moves (record {
  last = c.facts_last.ensures.hands;
  follow = c.hands_follow.ensures;
  leave = c.own_moves_leave.ensures.leave;
  go_on = c.own_moves_leave.ensures.go_on;
  steps = c.steps_go_by_moves.ensures;
  buffers = c.buffers_pass_by_moves.ensures;
  scan = c.scans_by_moves.ensures;
})
