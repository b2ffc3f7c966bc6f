-- The tests of a head by which the two passes for a span choose.
use Rattle.std.proofs.Common.{◌≡◌, ◌+◌, true, arith}
use Rattle.gh_central.proofs.Vocabulary.{is_unswept, is_wanted, Pass, Small, SpanHead, Unswept}

pub wanted-is : (m : Pass) (h : SpanHead) → is_wanted m h ≡ true → (h.class ≡ Small m.wanted.class) × (h.noscan ≡ m.wanted.noscan) × (h.owner ≡ 0) × (h.number ≡ m.generation)
wanted-is m h e = grind arith

pub wanted-test : (m : Pass) (h : SpanHead) → h.class ≡ Small m.wanted.class → h.noscan ≡ m.wanted.noscan → h.owner ≡ 0 → h.number ≡ m.generation → is_wanted m h ≡ true
wanted-test m h class noscan owner number = grind arith

pub unswept-is : (m : Unswept) (h : SpanHead) → is_unswept m h ≡ true → (h.class ≡ Small m.wanted.class) × (h.noscan ≡ m.wanted.noscan) × (h.number + 2 ≡ m.generation)
unswept-is m h e = grind arith
