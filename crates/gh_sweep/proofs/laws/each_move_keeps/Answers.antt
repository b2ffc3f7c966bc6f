use Rattle.gh_sweep.proofs.Sharing.Keeps.{keeps}
use Rattle.gh_sweep.proofs.laws.each_move_keeps.Goals as goal

pub returns : goal.returns
returns c = keeps (record { packed = c.packed_words_are_read_back.ensures; slots = c.size_class_laws.ensures.greatest_slot }) c.rows_are_written.ensures
