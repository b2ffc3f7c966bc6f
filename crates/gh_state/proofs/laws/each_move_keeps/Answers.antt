use Rattle.gh_state.proofs.Keeps.{keeps}
use Rattle.gh_state.proofs.laws.each_move_keeps.Goals as goal

pub returns : goal.returns
returns c = keeps (record {
  packed = c.packed_words_are_read_back.ensures;
  rows = c.rows_are_written.ensures;
  least = c.size_class_laws.ensures.least_slot;
  apart = c.the_heap_is_apart.ensures;
  reaches = c.no_more_is_reached.ensures;
  heap = c.each_move_keeps.ensures;
  besides = c.sweeps_go_beside.ensures;
  spans = c.whole_spans_fit.ensures;
  sweep = c.each_move_keeps-2.ensures;
})
