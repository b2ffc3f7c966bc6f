use Rattle.gh_scan.proofs.Markers.{scans-by-moves}
use Rattle.gh_scan.proofs.laws.scans_by_moves.Goals as goal

pub returns : goal.returns
returns c = scans-by-moves (record {
  rows = c.rows_are_written.ensures;
  marks = record {
    facts = c.facts_last.ensures.facts;
    follow = c.hands_follow.ensures;
    leave = c.own_moves_leave.ensures.leave;
    go_on = c.own_moves_leave.ensures.go_on;
  };
  last = c.facts_last.ensures.hands;
  steps = c.steps_go_by_moves.ensures;
  shade = c.shades_by_moves.ensures;
  room = c.buffers_pass_by_moves.ensures;
})
