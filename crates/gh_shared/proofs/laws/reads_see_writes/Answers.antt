use Rattle.gh_shared.proofs.LastWrites.{reads_see_writes}
use Rattle.gh_shared.proofs.laws.reads_see_writes.Goals as goal

pub returns : goal.returns
returns c = reads_see_writes c.a_step_changes_one_cell.ensures
