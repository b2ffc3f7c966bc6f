use Rattle.gh_state.proofs.Slots.{slots_read}
use Rattle.gh_state.proofs.laws.slots_are_read.Goals as goal

pub returns : goal.returns
returns c = slots_read
