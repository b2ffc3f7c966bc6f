use Rattle.std.proofs.Common.{length}
use Rattle.gh_script.proofs.Lines.{Reading}
use Rattle.gh_script.proofs.reading.lines.Given as goal

abbrev pub invariant-lines : goal.invariant-lines
invariant-lines l = Reading l.initial.draft l.text l.draft l.number l.rest

abbrev pub decreases-lines : goal.decreases-lines
decreases-lines l = length l.rest
