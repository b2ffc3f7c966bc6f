use Rattle.gh_coord.proofs.MarkingEnds.{marking_ends_clean}
use Rattle.gh_coord.proofs.laws.nothing_is_left_to_mark.Goals as goal

pub returns : goal.returns
returns c = marking_ends_clean
