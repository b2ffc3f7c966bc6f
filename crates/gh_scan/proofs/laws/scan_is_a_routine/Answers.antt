use Rattle.gh_scan.proofs.Sound.{is_routine}
use Rattle.gh_scan.proofs.laws.scan_is_a_routine.Goals as goal

pub returns : goal.returns
returns c l = is_routine l c.size_class_laws.ensures.greatest_slot c.packed_words_are_read_back.ensures.page_reads (c.shading_is_a_routine.ensures l) (c.room_search_is_a_routine.ensures l)
