use Rattle.gh_sweep.proofs.Sharing.AtEnd.{ends_well}
use Rattle.gh_sweep.proofs.laws.cycles_end_well.Goals as goal

pub returns : goal.returns
returns c = ends_well c.rows_are_written.ensures
