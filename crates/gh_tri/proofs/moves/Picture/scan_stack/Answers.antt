use Rattle.std.proofs.Common.{ap, ◌∙◌}
use Rattle.gh_tri.proofs.Vocabulary.{moved, picture_of, ScanRegister, Tricolour}
use Rattle.gh_tri.proofs.Scanning.{register-may, register-push}
use Rattle.gh_tri.proofs.moves.Picture.scan_stack.Goals as goal

pub scan_register-requires : goal.scan_register-requires
scan_register-requires c =
    register-may (picture_of c.args.self.now) _ c.args.stack c.loop-reg.reg c.loop-reg.invariant.moves c.requires c.loop-reg-test.true

pub loop-reg-preserved : goal.loop-reg-preserved
loop-reg-preserved c = record {
  moves = c.scan_register.ensures.moved ∙ (ap (λ (q : Tricolour). moved q (ScanRegister c.args.stack c.loop-reg.reg)) c.loop-reg.invariant.moves ∙ register-push (picture_of c.args.self.now) c.args.stack c.loop-reg.reg);
  invariants = λ i. c.scan_register.ensures.invariants (c.loop-reg.invariant.invariants i);
}
