use Rattle.std.proofs.Common.{◌≡◌, ◌≤◌, ◌++◌, drop}
unfoldable use Rattle.gh_script.specs.Made.{asking_from, goroutines_cause}
use Rattle.gh_script.proofs.made.asking_all.Given as goal

-- no goroutine so far is refused, and with those still to be made these are all
abbrev pub invariant-loop-g : goal.invariant-loop-g
invariant-loop-g l = record {
  few : l.before ≤ 200000;
  cause : goroutines_cause l.types l.g l.before (drop l.g l.wishes) ≡ goroutines_cause l.types 0 0 l.wishes;
  goroutines : l.goroutines.items ++ asking_from l.g (drop l.g l.wishes) ≡ asking_from 0 l.wishes;
}
