use Rattle.gh_sweep.proofs.Sharing.Objects.{bits_are_objects}
use Rattle.gh_sweep.proofs.laws.bits_are_objects.Goals as goal

pub returns : goal.returns
returns c = bits_are_objects c.rows_are_written.ensures
