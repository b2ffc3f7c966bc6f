use Rattle.gh_holds.proofs.AllActors.Tied.{ties_show}
use Rattle.gh_holds.proofs.ties.ties_show_what_there_is.Goals as goal

pub returns : goal.returns
returns c = ties_show c.reach_is_decided.ensures.made
