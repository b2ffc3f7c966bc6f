use Rattle.gh_barrier.proofs.Markers.{writes-by-moves}
use Rattle.gh_barrier.proofs.laws.writes_by_moves.Goals as goal

pub returns : goal.returns
returns c = writes-by-moves (record {
  facts = c.facts_last.ensures.facts;
  last = c.facts_last.ensures.hands;
  follow = c.hands_follow.ensures;
  leave = c.own_moves_leave.ensures.leave;
  go_on = c.own_moves_leave.ensures.go_on;
  shade = c.shades_by_moves.ensures;
})
