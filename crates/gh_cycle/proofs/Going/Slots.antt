-- A claimed slot is cleared beside marking, before its object is made: no object that is known has a word there.
use Rattle.std.proofs.Common.{◌≡◌, ◌≢◌, ℕ, ◌+◌, ◌<◌, subst, sym, ap, ◌∙◌}
use Rattle.gh_cycle.proofs.Vocabulary.{alloc_words, Ask, Cell, ClaimedFieldsAreAside, Claims, Cycle, Good, Heap, IsBeside, IsPointer, Marking, MarkingGood, Row, row_bit, TheHeapIsApart, view, Words}
use Rattle.gh_marks.specs.Moves as marks
use Rattle.gh_cycle.proofs.Bits.{zero_one}
use Rattle.gh_cycle.proofs.Going.Objects.{apart-from, here, name-at}
use Rattle.gh_cycle.proofs.Quiet.{with_words}

-- the place of an object that stands is none that is clear
elsewhere : (alloc : Row) (at x : ℕ) → row_bit alloc at ≡ 0 → row_bit alloc x ≡ 1 → at ≢ x
elsewhere alloc at x clear set e = zero_one (row_bit alloc x) (ap (λ (y : ℕ). row_bit alloc y) (sym e) ∙ clear) set

field-aside : TheHeapIsApart → (z : Cycle) (a at size i : ℕ) (h : Heap) (s : Marking) → Good z.arena (view (here h s)) → MarkingGood z s → IsBeside z.arena (here h s) s → Claims z.arena (view (here h s)) a at size → i < size → marks.IsQuietInMarking s (Ask.Store (Cell.Field (at + i)) 0)
field-aside apart z a at size i h s g m c claim l o j known = let n = name-at z h s g m o known in
    subst (λ (x : ℕ). IsPointer s.extents x j → at + i ≢ x + j) n.at (λ pointer. apart-from z h s g m apart c n.name n.of j pointer claim.p claim.i at size i claim.h claim.slot (elsewhere (alloc_words s.words) at (h.place n.name) claim.clear n.of.placed.set) l)

pub fields-aside : TheHeapIsApart → ClaimedFieldsAreAside
fields-aside apart z a at size i h s g m c claim l =
    subst (λ (u : Words). Good z.arena (view (with_words h u)) → IsBeside z.arena (with_words h u) s → Claims z.arena (view (with_words h u)) a at size → marks.IsQuietInMarking s (Ask.Store (Cell.Field (at + i)) 0)) c.words
    (λ good beside claimed. field-aside apart z a at size i h s good m beside claimed l) g c claim
