use Rattle.std.proofs.Common.{length}
use Rattle.gh_dump.proofs.Rest.{Passing}
use Rattle.gh_dump.proofs.reading.first_cause.Given as goal

abbrev pub ghost-cause : goal.ghost-cause
ghost-cause g a = g.items

abbrev pub invariant-lines : goal.invariant-lines
invariant-lines g l = Passing g.items (length l.text) l.before l.rest

abbrev pub decreases-lines : goal.decreases-lines
decreases-lines g l = length l.rest
