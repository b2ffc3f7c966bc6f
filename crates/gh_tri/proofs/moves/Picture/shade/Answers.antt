use Rattle.std.proofs.Common.{ℕ, ap}
use Rattle.gh_tri.proofs.Vocabulary.{Colour, picture_of, Shade}
use Rattle.gh_tri.proofs.Showing.{keeps-shown}
use Rattle.gh_tri.proofs.moves.Picture.shade.Goals as goal

pub returns-clause-moved : goal.returns-clause-moved
unfolding picture_of
returns-clause-moved c = ap (λ (t : ℕ → Colour). record (picture_of c.args.self.now) { colour = t }) c.shade_in.ensures.colours

pub returns-clause-invariants : goal.returns-clause-invariants
returns-clause-invariants c = keeps-shown _ _ (Shade c.args.o) (returns-clause-moved c) c.requires
