use Rattle.gh_worker.proofs.Globals.{count_globals}
use Rattle.gh_worker.proofs.laws.workers_count_globals.Goals as goal

pub returns : goal.returns
returns c = count_globals (record {
  footprints = c.footprints_hold.ensures;
  reads = c.packed_words_are_read_back.ensures.page_reads;
  earn = c.earning_is_a_routine.ensures;
  give = c.giving_back_is_a_routine.ensures;
  resume = c.going_on_is_a_routine.ensures;
  take = c.entry_taking_is_a_routine.ensures;
  scan = c.scan_is_a_routine.ensures;
  shade = c.shading_is_a_routine.ensures;
  room = c.room_search_is_a_routine.ensures;
  sweep = c.the_sweep_is_a_routine.ensures;
})
