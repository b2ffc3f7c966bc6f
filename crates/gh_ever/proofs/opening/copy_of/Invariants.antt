use Rattle.std.proofs.Common.{◌≡◌, take}
use Rattle.gh_ever.proofs.opening.copy_of.Given as goal

abbrev pub invariant-loop-shape : goal.invariant-loop-shape
invariant-loop-shape l = l.rows.items ≡ take l.shape-index l.shape-items
