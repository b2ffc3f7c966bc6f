use Rattle.std.proofs.Common.{◌≡◌, ℕ, ◌<◌, false}
use Rattle.gh_tri.proofs.Vocabulary.{cells}
use Rattle.gh_tri.proofs.moves.Picture.are_all.Given as goal

abbrev pub invariant-loop-r : goal.invariant-loop-r
invariant-loop-r l = (k : ℕ) → k < l.r → cells false l.self.seen.columns l.self.seen.items.items l.stack k ≡ l.seen
