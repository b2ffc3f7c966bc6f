use Rattle.std.proofs.Common.{◌<◌, false, None, ap, ◌∙◌, sym, arith}
use Rattle.gh_tri.proofs.Vocabulary.{picture_of, ScanRegister, shaded}
use Rattle.gh_tri.proofs.Showing.{keeps-shown, register_scanned}
use Rattle.gh_tri.proofs.moves.Picture.scan_register.Goals as goal

pub shade_in-requires : goal.shade_in-requires
shade_in-requires c = λ o e. let below : o < c.args.self.now.objects = c.args.self.now.registers_made c.args.stack c.args.reg o (sym (c.get-held.ensures None) ∙ e) in omega (arith, c.args.self.now.limited, c.args.self.now.colour_count)

pub returns-clause-moved : goal.returns-clause-moved
unfolding picture_of
returns-clause-moved c =
    register_scanned (picture_of c.args.self.now) c.args.stack c.args.reg _ _
    (c.shade_in.ensures.colours ∙ ap (shaded (picture_of c.args.self.now).colour) (c.get-held.ensures None))
    (c.set.ensures.cells false)

pub returns-clause-invariants : goal.returns-clause-invariants
returns-clause-invariants c = keeps-shown _ _ (ScanRegister c.args.stack c.args.reg) (returns-clause-moved c) c.requires
