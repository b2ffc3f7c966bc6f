use Rattle.std.proofs.Common.{◌<◌, true, None, ◌∙◌, arith}
use Rattle.gh_tri.proofs.Vocabulary.{Allocate, Black, length-set, picture_of}
use Rattle.gh_tri.proofs.Cells.{cells-past, put_row-idle}
use Rattle.gh_tri.proofs.Showing.{put2-more, keeps-shown, colours-set, allocated}
use Rattle.gh_tri.proofs.moves.Picture.allocate.Goals as goal

pub invariant_of-self-clause-colour_count : goal.invariant_of-self-clause-colour_count
invariant_of-self-clause-colour_count c = length-set _ _ _ ∙ c.args.self.now.colour_count

pub invariant_of-self-clause-empty : goal.invariant_of-self-clause-empty
invariant_of-self-clause-empty c = λ o f le. c.args.self.now.empty o f (omega arith)

pub invariant_of-self-clause-values_made : goal.invariant_of-self-clause-values_made
invariant_of-self-clause-values_made c = λ o f w e. let below : w < c.args.self.now.objects = c.args.self.now.values_made o f w e in omega arith

pub invariant_of-self-clause-registers_made : goal.invariant_of-self-clause-registers_made
invariant_of-self-clause-registers_made c = put2-more _ _ _ _ _ (c.set.ensures.cells None) c.args.self.now.registers_made

pub returns-clause-moved : goal.returns-clause-moved
unfolding picture_of
returns-clause-moved c =
    let p = c.args.self.now in
    allocated (picture_of c.args.self.now) c.args.stack c.args.reg _ _
    (colours-set c.args.self.now.colours.items c.args.self.now.objects Black (omega (arith, c.requires.room, c.args.self.now.colour_count)))
    (put_row-idle (picture_of c.args.self.now).value c.args.self.now.objects None (λ b. c.args.self.now.empty c.args.self.now.objects b (omega arith)))
    (put_row-idle (picture_of c.args.self.now).scanned c.args.self.now.objects true
    (λ b. cells-past true c.args.self.now.scanned.columns c.args.self.now.scanned.rows c.args.self.now.scanned.items.items c.args.self.now.objects b c.args.self.now.scanned.full c.args.self.now.scanned_rows))
    (c.set.ensures.cells None)

pub returns-clause-invariants : goal.returns-clause-invariants
returns-clause-invariants c = keeps-shown _ _ (Allocate c.args.stack c.args.reg) (returns-clause-moved c) c.requires
