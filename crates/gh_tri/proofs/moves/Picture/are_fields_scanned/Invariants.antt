use Rattle.std.proofs.Common.{◌≡◌, ℕ, ◌<◌, true}
use Rattle.gh_tri.proofs.Vocabulary.{cells}
use Rattle.gh_tri.proofs.moves.Picture.are_fields_scanned.Given as goal

abbrev pub invariant-loop-f : goal.invariant-loop-f
invariant-loop-f l = (k : ℕ) → k < l.f → cells true l.self.scanned.columns l.self.scanned.items.items l.o k ≡ true
