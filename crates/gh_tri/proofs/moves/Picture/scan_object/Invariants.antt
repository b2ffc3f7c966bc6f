use Rattle.std.proofs.Common.{◌≡◌}
use Rattle.gh_tri.proofs.Vocabulary.{after, field_scans, Invariants, picture_of}
use Rattle.gh_tri.proofs.moves.Picture.scan_object.Given as goal

-- so far, the fields below f were scanned
abbrev pub invariant-loop-f : goal.invariant-loop-f
invariant-loop-f l = record {
  moves : picture_of l.self ≡ after (picture_of l.fn.self) (field_scans l.o l.f);
  invariants : Invariants (picture_of l.fn.self) → Invariants (picture_of l.self);
}
