use Rattle.gh_cycle.proofs.Marked.{reached-marked-beside}
use Rattle.gh_cycle.proofs.beside.the_reached_are_marked_beside.Goals as goal

pub returns : goal.returns
returns c = reached-marked-beside c.reach_is_decided.ensures.made
