use Rattle.std.proofs.Common.{◌≡◌, take, map, length}
use Rattle.gh_ever.proofs.opening.counts_of.Given as goal

abbrev pub invariant-loop-g : goal.invariant-loop-g
invariant-loop-g l = l.counts.items ≡ map (λ goroutine. length goroutine.statements) (take l.g l.script.goroutines)
