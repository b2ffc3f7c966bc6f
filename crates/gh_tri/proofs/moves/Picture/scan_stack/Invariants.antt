use Rattle.std.proofs.Common.{◌≡◌}
use Rattle.gh_tri.proofs.Vocabulary.{after, Invariants, picture_of, register_scans}
use Rattle.gh_tri.proofs.moves.Picture.scan_stack.Given as goal

-- so far, the registers below reg were scanned
abbrev pub invariant-loop-reg : goal.invariant-loop-reg
invariant-loop-reg l = record {
  moves : picture_of l.self ≡ after (picture_of l.fn.self) (register_scans l.stack l.reg);
  invariants : Invariants (picture_of l.fn.self) → Invariants (picture_of l.self);
}
