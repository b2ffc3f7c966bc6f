use Rattle.gh_state.proofs.Told.{counts_told}
use Rattle.gh_state.proofs.laws.counts_are_told.Goals as goal

pub returns : goal.returns
returns c = counts_told (record { rows = c.rows_are_written.ensures; read = c.slots_are_read.ensures; told = c.cycles_open_and_end.ensures.told; bits = c.bits_are_objects.ensures })
