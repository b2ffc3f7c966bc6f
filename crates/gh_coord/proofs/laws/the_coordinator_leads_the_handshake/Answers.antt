use Rattle.gh_coord.proofs.Shaking.{leads_handshake}
use Rattle.gh_coord.proofs.laws.the_coordinator_leads_the_handshake.Goals as goal

pub returns : goal.returns
returns c = leads_handshake c.the_parts_are_routines.ensures
