use Rattle.gh_sweep.proofs.Sweeping.Facts.{keeps}
use Rattle.gh_sweep.proofs.laws.sweep_keeps_its_facts.Goals as goal

pub returns : goal.returns
returns c = keeps c.a_step_changes_one_cell.ensures c.cells_are_told.ensures c.packed_words_are_read_back.ensures
