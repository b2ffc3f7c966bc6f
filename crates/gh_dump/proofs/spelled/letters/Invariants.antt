use Rattle.gh_dump.proofs.Letters.{Read}
use Rattle.gh_dump.proofs.spelled.letters.Given as goal

abbrev pub invariant-loop-left : goal.invariant-loop-left
invariant-loop-left l = Read l.goroutine l.value l.left

abbrev pub decreases-loop-left : goal.decreases-loop-left
decreases-loop-left l = l.left
