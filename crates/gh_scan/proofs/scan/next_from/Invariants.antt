use Rattle.std.proofs.Common.{◌≡◌}
use Rattle.gh_scan.proofs.Vocabulary.{next_from}
use Rattle.gh_scan.proofs.scan.next_from.Given as goal

abbrev pub invariant-loop-x : goal.invariant-loop-x
invariant-loop-x l = next_from l.bits l.end l.from ≡ next_from l.bits l.end l.x
