use Rattle.gh_cycle.proofs.GoneOn.{has-gone-on}
use Rattle.gh_cycle.proofs.since.what_has_gone_on_lasts.Goals as goal

pub returns : goal.returns
returns c = has-gone-on (record {
  rows = c.rows_are_written.ensures;
  apart = c.the_heap_is_apart.ensures;
  keeps = c.each_move_keeps.ensures;
  leaves = c.each_move_leaves.ensures;
  reaches = c.no_more_is_reached.ensures;
  steps = c.steps_go_by_moves.ensures;
})
