use Rattle.std.proofs.Common.{◌≡◌, ℕ, ◌<◌, Some, None}
use Rattle.gh_tri.proofs.Vocabulary.{cells}
use Rattle.gh_tri.proofs.moves.Picture.is_held.Given as goal

abbrev pub invariant-loop-r : goal.invariant-loop-r
invariant-loop-r l = (k : ℕ) → k < l.r → cells None l.self.registers.columns l.self.registers.items.items l.stack k ≡ Some l.o → ⊥
