use Rattle.std.proofs.Common.{◌<◌, None, ap, ◌∙◌, sym, arith}
use Rattle.gh_tri.proofs.Vocabulary.{picture_of, ScanField, shaded}
use Rattle.gh_tri.proofs.Showing.{keeps-shown, field_scanned}
use Rattle.gh_tri.proofs.moves.Picture.scan_field.Goals as goal

pub shade_in-requires : goal.shade_in-requires
shade_in-requires c = λ o e. let below : o < c.args.self.now.objects = c.args.self.now.values_made c.args.o c.args.f o (sym (c.get-target.ensures None) ∙ e) in omega (arith, c.args.self.now.limited, c.args.self.now.colour_count)

pub returns-clause-moved : goal.returns-clause-moved
unfolding picture_of
returns-clause-moved c =
    field_scanned (picture_of c.args.self.now) c.args.o c.args.f _ _
    (c.shade_in.ensures.colours ∙ ap (shaded (picture_of c.args.self.now).colour) (c.get-target.ensures None))
    c.note_scanned.ensures.cells

pub returns-clause-invariants : goal.returns-clause-invariants
returns-clause-invariants c = keeps-shown _ _ (ScanField c.args.o c.args.f) (returns-clause-moved c) c.requires
