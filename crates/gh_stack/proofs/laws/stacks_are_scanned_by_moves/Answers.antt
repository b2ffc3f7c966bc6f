use Rattle.gh_stack.proofs.Markers.{scanned-by-moves}
use Rattle.gh_stack.proofs.laws.stacks_are_scanned_by_moves.Goals as goal

pub returns : goal.returns
returns c = scanned-by-moves c.facts_last.ensures.facts
