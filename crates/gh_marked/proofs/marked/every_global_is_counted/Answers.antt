use Rattle.gh_marked.proofs.Scanned.Globals.{Cited, globals_are_counted}
use Rattle.gh_marked.proofs.marked.every_global_is_counted.Goals as goal

pub returns : goal.returns
returns c setup few cursor es lead legal led =
    let cited : Cited setup = record {
      writes = c.a_processor_writes_its_own.ensures;
      workers = c.workers_are_routines.ensures;
      globals = c.workers_count_globals.ensures;
      keeps = c.every_list_keeps_the_handshake.ensures setup;
      rests = c.every_list_rests_workers.ensures setup;
      plainly = λ xs d is by. c.every_list_counts_plainly.ensures setup xs d is (few xs is) by;
      cursor = cursor;
    } in
    globals_are_counted setup cited es lead legal led
