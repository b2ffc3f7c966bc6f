use Rattle.gh_poll.proofs.Marking.Polls.{polls_by_moves}
use Rattle.gh_poll.proofs.laws.polls_by_moves.Goals as goal

pub returns : goal.returns
returns c = polls_by_moves (record {
  last = c.facts_last.ensures.hands;
  follow = c.hands_follow.ensures;
  leave = c.own_moves_leave.ensures.leave;
  go_on = c.own_moves_leave.ensures.go_on;
  steps = c.steps_go_by_moves.ensures;
  buffers = c.buffers_pass_by_moves.ensures;
  shade = c.shades_by_moves.ensures;
  stacks = c.stacks_are_scanned_by_moves.ensures;
}) c.what_polls_run_is_quiet.ensures c.marking_is_quiet.ensures
