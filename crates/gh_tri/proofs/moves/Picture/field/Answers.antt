use Rattle.std.proofs.Common.{None, sym, ◌∙◌}
use Rattle.gh_tri.proofs.Vocabulary.{picture_of}
use Rattle.gh_tri.proofs.moves.Picture.field.Goals as goal

pub returns-clause-made : goal.returns-clause-made
unfolding picture_of
returns-clause-made c = λ w e. c.args.self.now.values_made c.args.o c.args.f w (sym (c.get.ensures None) ∙ e)
