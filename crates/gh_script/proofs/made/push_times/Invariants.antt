use Rattle.std.proofs.Common.{◌≡◌, ◌++◌, replicate}
use Rattle.gh_script.proofs.made.push_times.Given as goal

abbrev pub invariant-loop-k : goal.invariant-loop-k
invariant-loop-k l = l.statements.items ≡ l.initial.statements.items ++ replicate l._k l.statement
