use Rattle.gh_sweep.proofs.Sweeping.Alone.{sweeps}
use Rattle.gh_sweep.proofs.laws.spans_are_swept.Goals as goal

pub returns : goal.returns
returns c = sweeps c.cells_are_told.ensures c.rows_are_written.ensures
