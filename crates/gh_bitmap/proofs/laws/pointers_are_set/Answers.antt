use Rattle.gh_bitmap.proofs.Vocabulary.{listing, steps_of}
use Rattle.gh_bitmap.proofs.PointerSetting.Running.{ends}
use Rattle.gh_bitmap.proofs.laws.pointers_are_set.Goals as goal

pub returns : goal.returns
returns c l = ends c.rows_are_written.ensures c.cells_are_told.ensures l (c.steps_are_folded.ensures (steps_of l (listing l)))
