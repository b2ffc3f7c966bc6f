use Rattle.gh_alloc.proofs.Placing.Marking.{marked_first}
use Rattle.gh_alloc.proofs.laws.an_object_is_marked_before_it_is_made.Goals as goal

pub returns : goal.returns
returns c = marked_first
