use Rattle.std.proofs.Common.{ℕ, ap, arith}
use Rattle.gh_tri.proofs.Vocabulary.{Black, Blacken, Colour, picture_of}
use Rattle.gh_tri.proofs.Showing.{keeps-shown, colours-set}
use Rattle.gh_tri.proofs.moves.Picture.blacken.Goals as goal

pub returns-clause-moved : goal.returns-clause-moved
unfolding picture_of
returns-clause-moved c =
    ap (λ (t : ℕ → Colour). record (picture_of c.args.self.now) { colour = t })
    (colours-set c.args.self.now.colours.items c.args.o Black (omega (arith, c.requires.made, c.args.self.now.limited, c.args.self.now.colour_count)))

pub returns-clause-invariants : goal.returns-clause-invariants
returns-clause-invariants c = keeps-shown _ _ (Blacken c.args.o) (returns-clause-moved c) c.requires
