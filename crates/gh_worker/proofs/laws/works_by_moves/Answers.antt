use Rattle.gh_worker.proofs.MarkSteps.{works-by-moves}
use Rattle.gh_worker.proofs.laws.works_by_moves.Goals as goal

pub returns : goal.returns
returns c = works-by-moves (record {
  facts = c.facts_last.ensures.facts;
  last = c.facts_last.ensures.hands;
  small = c.the_cursor_is_small.ensures;
  follow = c.hands_follow.ensures;
  steps = c.steps_go_by_moves.ensures;
  buffers = c.buffers_pass_by_moves.ensures;
  shade = c.shades_by_moves.ensures;
  scan = c.scans_by_moves.ensures;
})
