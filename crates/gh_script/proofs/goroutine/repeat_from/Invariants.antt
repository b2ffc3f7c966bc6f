use Rattle.std.proofs.Common.{◌≡◌, ◌++◌, drop}
use Rattle.gh_script.proofs.Vocabulary.{repeat}
use Rattle.gh_script.proofs.goroutine.repeat_from.Given as goal

abbrev pub invariant-loop-k : goal.invariant-loop-k
invariant-loop-k l = l.statements.items ≡ l.initial.statements.items ++ repeat l._k (drop l.start l.initial.statements.items)
