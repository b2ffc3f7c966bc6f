use Rattle.gh_wbuf.proofs.MarkersTake.{pass}
use Rattle.gh_wbuf.proofs.laws.buffers_pass_by_moves.Goals as goal

pub returns : goal.returns
returns c = pass (record {
  held = c.buffers_are_held.ensures;
  kept = c.buffers_are_kept.ensures;
  last = c.facts_last.ensures.hands;
  follow = c.hands_follow.ensures;
  leave = c.own_moves_leave.ensures.leave;
  go_on = c.own_moves_leave.ensures.go_on;
})
