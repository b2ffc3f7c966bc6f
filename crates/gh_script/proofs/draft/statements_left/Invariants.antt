use Rattle.std.proofs.Common.{◌≡◌, ◌+◌, take}
use Rattle.gh_script.proofs.Vocabulary.{statements_in, sum_by}
use Rattle.gh_script.proofs.draft.statements_left.Given as goal

abbrev pub invariant-loop-g : goal.invariant-loop-g
invariant-loop-g l = l.left + sum_by statements_in (take l.g-index l.closed) ≡ 200000
