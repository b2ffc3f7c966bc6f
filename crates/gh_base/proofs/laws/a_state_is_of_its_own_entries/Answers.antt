use Rattle.gh_base.proofs.Own.{state_of-by}
use Rattle.gh_base.proofs.laws.a_state_is_of_its_own_entries.Goals as goal

pub returns : goal.returns
returns g c = state_of-by
