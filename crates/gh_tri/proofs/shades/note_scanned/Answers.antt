use Rattle.std.proofs.Common.{true}
use Rattle.gh_tri.proofs.shades.note_scanned.Goals as goal

pub returns-then-o-scanned-clause-cells : goal.returns-then-o-scanned-clause-cells
returns-then-o-scanned-clause-cells c = c.set.ensures.cells true
