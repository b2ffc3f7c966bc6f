use Rattle.gh_marked.proofs.Vocabulary.{setup_in}
use Rattle.gh_marked.proofs.CycleMarking.Lists.{Cited, marks_to_the_end}
use Rattle.gh_marked.proofs.CycleMarking.Moving.{Known}
use Rattle.gh_marked.proofs.marked.every_cycle_is_marked.Goals as goal

pub returns : goal.returns
returns c arena pacing may limits polls heap es lead legal led on =
    let known : Known = record {
      read = c.packed_words_are_read_back.ensures;
      processors = c.a_processor_marks_by_moves.ensures;
      writes = c.a_processor_writes_its_own.ensures;
      workers = c.works_by_moves.ensures;
      routines = c.workers_are_routines.ensures;
      places = c.workers_keep_places.ensures;
      begin = c.marking_begins.ensures;
      steps = c.steps_go_by_moves.ensures;
      follow = c.hands_follow.ensures;
      last = c.facts_last.ensures.hands;
    } in
    let cited : Cited arena pacing may = record {
      limits = limits;
      moves = record { known = known; polls = polls; heap = heap };
      keeps = c.every_list_keeps_the_handshake.ensures (setup_in arena pacing may);
      step_keeps = c.every_step_keeps_the_handshake.ensures (setup_in arena pacing may);
      one = c.a_step_changes_one_cell.ensures;
      done = c.marking_ends_clean.ensures.done;
      clean = c.marking_ends_clean.ensures.clean;
    } in
    marks_to_the_end arena pacing may cited es lead legal led on
