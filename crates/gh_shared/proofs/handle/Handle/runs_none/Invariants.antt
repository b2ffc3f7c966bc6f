use Rattle.std.proofs.Common.{◌≡◌, ◌<◌, ℕ, false}
use Rattle.gh_shared.proofs.Vocabulary.{runs_in}
use Rattle.gh_shared.proofs.handle.Handle.runs_none.Given as goal

abbrev pub invariant-loop-g : goal.invariant-loop-g
invariant-loop-g l = (k : ℕ) → k < l.g → runs_in l.self k ≡ false
