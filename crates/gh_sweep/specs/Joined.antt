-- Allocation beside the sweep: what gh_heap says of whole spans is enough for what is said of spans here.
use Rattle.std.specs.Prelude.{◌≡◌, ℕ}
use Rattle.gh_sweep.specs.Vocabulary.{FitsHead, Head, IsSpan, LaidOut, Laying, page_of, Row, SpanHead}
use Rattle.gh_sweep.specs.Moves.{MayLay}
use Rattle.gh_sweep.specs.Shared.{ApartGood, CycleEnd, generation_of}

-- each head is that of a whole span: so it is while nobody frees the pages of one
abbrev pub AreWhole : (pages : ℕ) → (page : Row) → Type 0
AreWhole pages page = (p : ℕ) (h : SpanHead) → page_of (page p) ≡ Head h → IsSpan pages page p h

pub record SpansFit : Type 0 where
  -- whole spans have no page in common
  pub apart : (pages : ℕ) (page : Row) → AreWhole pages page → ApartGood page
  -- the head of a span that is laid out may be laid
  pub laid : (e : CycleEnd) (page : Row) (y : Laying) → AreWhole e.layout.pages page → LaidOut e.layout.pages page y → y.next ≡ y.head.pages → FitsHead y.head → y.head.number ≡ generation_of e → MayLay e page y.first y.head
