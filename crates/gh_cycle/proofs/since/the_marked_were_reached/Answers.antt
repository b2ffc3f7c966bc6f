use Rattle.gh_cycle.proofs.GoneOn.{marked-were-reached}
use Rattle.gh_cycle.proofs.since.the_marked_were_reached.Goals as goal

pub returns : goal.returns
returns c = marked-were-reached
