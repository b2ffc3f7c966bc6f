use Rattle.gh_scan.proofs.Vocabulary.{page_of}
use Rattle.gh_scan.proofs.Objects.{scans}
use Rattle.gh_scan.proofs.Slots.{some_word}
use Rattle.gh_scan.proofs.laws.objects_are_scanned.Goals as goal

pub returns : goal.returns
returns c l seat reference held found fits =
    scans l seat reference held found (some_word c.size_class_laws.ensures.least_slot (page_of (found 0)) (c.packed_words_are_read_back.ensures.page_reads (found 0) fits)) c.cells_are_told.ensures
