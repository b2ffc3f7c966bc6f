use Rattle.std.proofs.Common.{length}
use Rattle.gh_dump.specs.Items.{items_of}
use Rattle.gh_dump.proofs.Rest.{Filling}
use Rattle.gh_dump.proofs.reading.fill.Given as goal

abbrev pub invariant-lines : goal.invariant-lines
invariant-lines l = Filling (items_of l.text) (length l.text) l.index l.rest

abbrev pub decreases-lines : goal.decreases-lines
decreases-lines l = length l.rest
