use Rattle.gh_cycle.proofs.Marked.{marked-stand}
use Rattle.gh_cycle.proofs.beside.the_marked_stand.Goals as goal

pub returns : goal.returns
returns c = marked-stand
