use Rattle.std.proofs.Common.{ap, ◌∙◌, arith}
use Rattle.gh_tri.proofs.Vocabulary.{moved, picture_of, ScanField, Tricolour}
use Rattle.gh_tri.proofs.Scanning.{field-may, field-push, object-may, object-ends}
use Rattle.gh_tri.proofs.moves.Picture.scan_object.Goals as goal

pub scan_field-requires : goal.scan_field-requires
scan_field-requires c =
    field-may (picture_of c.args.self.now) _ c.args.o c.loop-f.f c.loop-f.invariant.moves c.requires (omega (arith, c.fields-count.ensures, c.loop-f-test.true))

pub loop-f-preserved : goal.loop-f-preserved
loop-f-preserved c = record {
  moves = c.scan_field.ensures.moved ∙ (ap (λ (q : Tricolour). moved q (ScanField c.args.o c.loop-f.f)) c.loop-f.invariant.moves ∙ field-push (picture_of c.args.self.now) c.args.o c.loop-f.f);
  invariants = λ i. c.scan_field.ensures.invariants (c.loop-f.invariant.invariants i);
}

pub blacken-requires : goal.blacken-requires
blacken-requires c =
    object-may (picture_of c.args.self.now) _ c.args.o c.loop-f.f c.loop-f.invariant.moves c.requires (omega (arith, c.fields-count.ensures, c.loop-f-test.false))

pub returns-clause-moves : goal.returns-clause-moves
returns-clause-moves c =
    object-ends (picture_of c.args.self.now) _ _ c.args.o c.loop-f.f c.loop-f.invariant.moves (omega (arith, c.fields-count.ensures, c.loop-f-test.false, c.loop-f.auto.f-end)) c.blacken.ensures.moved
