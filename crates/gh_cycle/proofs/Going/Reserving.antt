-- The mark of a claimed slot may be set before its object is made: the slot is white, since nothing stands there and nobody else fills it.
use Rattle.std.proofs.Common.{◌≡◌, ◌≢◌, ℕ, ◌+◌, ◌-◌, ◌*◌, ◌/◌, ◌<◌, ◌≤◌, cond, refl, sym, ap, subst, ◌∙◌, inl, inr, arith}
use Rattle.gh_cycle.proofs.Vocabulary.{alloc_words, Black, Buffered, Claims, ClaimsSlot, Colour, Cycle, eqb_tells, FillsNone, Good, Heap, is_own_class, IsBeside, IsShaded, IsSizeClass, IsSpan, Marking, MarkingGood, number_of_class, owner_at, page_of, PageWord, Pending, Placing, Row, row_bit, SizeClass, slot_of, SlotsAreReserved, SpanHead, Taken, TheHeapIsApart, View, view, White, Words}
use Rattle.gh_marks.specs.Moves as marks
use Rattle.gh_base.specs.declared.pack.PageWord.TheVariants.{Body, Free, Head}
use Rattle.gh_cycle.proofs.Bits.{zero_one}
use Rattle.gh_cycle.proofs.Going.Lasting.{beside-lasts}
use Rattle.gh_cycle.proofs.Going.Objects.{here}
use Rattle.gh_cycle.proofs.Quiet.{with_words}

-- a slot has a word at least
some_words : ((c : ℕ) → c < 25 → 8 ≤ slot_of c) → (c : SizeClass) (pages : ℕ) → 1 ≤ pages → IsSizeClass c → 0 < cond (is_own_class c) (1024 * pages) (slot_of (number_of_class c) / 8)
some_words least c pages some is = grind arith

-- how many pages before this one its span begins
back : PageWord → ℕ
back Free = 0
back (Head h) = 0
back (Body b) = b.distance

-- so the span that a page lies in is told by the page's word
begins-at : (pages : ℕ) (page : Row) (p q : ℕ) (h : SpanHead) → IsSpan pages page p h → p ≤ q → q < p + h.pages → back (page_of (page q)) ≡ q - p
unfolding back
begins-at pages page p q h span low high = elim (eqb_tells q p) [
  | inl y ↦ let first : back (page_of (page q)) ≡ 0 = ap (λ (x : ℕ). back (page_of (page x))) y.1 ∙ ap back span.head in omega (arith, first, y.1)
  | inr n ↦
      let further : 0 < q - p = omega (arith, low, n.1) in
      let below : q - p < h.pages = omega (arith, low, high) in
      let at : q ≡ p + (q - p) = omega (arith, low) in
      ap (λ (x : ℕ). back (page_of (page x))) at ∙ ap back (span.body (q - p) further below)
]

-- a slot is claimed by one seat alone
module _ (least : (c : ℕ) → c < 25 → 8 ≤ slot_of c) (apart : TheHeapIsApart) (z : Cycle) (v : View) (g : Good z.arena v) where
  span-of : (a at size : ℕ) (c : Claims z.arena v a at size) → (c.p ≤ at / 1024) × (back (page_of (v.page (at / 1024))) ≡ at / 1024 - c.p)
  span-of a at size c =
      let fits = c.slot.span.fits in
      let some = some_words least c.h.class c.h.pages fits.some fits.class in
      let sized = c.slot.size_is in
      let inside = (apart z.arena v g).inside c.p c.i at size 0 c.h c.slot (omega (arith, some, sized)) in
      let low : c.p ≤ at / 1024 = omega (arith, inside.0) in
      (low, begins-at z.arena.layout.pages v.page c.p (at / 1024) c.h c.slot.span low (omega (arith, inside.1)))

  pub one-claims : (a b at size other : ℕ) → Claims z.arena v a at size → Claims z.arena v b at other → b ≡ a
  one-claims a b at size other c d =
      let x = span-of a at size c in
      let y = span-of b at other d in
      let same : d.p ≡ c.p = omega (arith, x.0, x.1, y.0, y.1) in
      let owner : owner_at v.page c.p ≡ a + 1 = (g.owners a c.p).1 c.held in
      let owner-too : owner_at v.page c.p ≡ b + 1 = ap (λ (p : ℕ). owner_at v.page p) (sym same) ∙ (g.owners b d.p).1 d.held in
      omega (arith, owner, owner-too)

module _ (least : (c : ℕ) → c < 25 → 8 ≤ slot_of c) (apart : TheHeapIsApart) (z : Cycle) (a at size : ℕ) (h : Heap) (s : Marking) (m : MarkingGood z s) (fills : FillsNone a s) (g : Good z.arena (view (here h s))) (c : IsBeside z.arena (here h s) s) (claim : Claims z.arena (view (here h s)) a at size) where
  abbrev reserved : Marking
  reserved = marks.moved z a s (marks.Reserve at)

  empty : row_bit (alloc_words s.words) at ≢ 1
  empty set = zero_one (row_bit (alloc_words s.words) at) claim.clear set

  shaded : (k : Colour) → s.colour at ≡ k → IsShaded k → s.colour at ≡ White
  shaded k e is = absurd (empty (m.objects.placed at (m.objects.of_cycle at (m.objects.shaded at (subst IsShaded (sym e) is)))))

  white-if : (k : Colour) → s.colour at ≡ k → s.colour at ≡ White
  white-if White e = e
  white-if (Placing b) e = let d = c.filling at b e in absurd (fills at (e ∙ ap Placing (one-claims least apart z (view (here h s)) g a b at size d.size claim d.claim)))
  white-if (Pending b) e = shaded (Pending b) e tt
  white-if (Buffered b j) e = shaded (Buffered b j) e tt
  white-if (Taken b) e = shaded (Taken b) e tt
  white-if Black e = shaded Black e tt

  filling : (o b : ℕ) → reserved.colour o ≡ Placing b → ClaimsSlot z.arena (view (here h s)) b o
  filling o b is = elim (eqb_tells at o) [
    | inr n ↦ c.filling o b (sym (rw n.0 refl) ∙ is)
    | inl y ↦
        let same : Placing a ≡ Placing b = sym (rw y.0 refl) ∙ is in
        let seat : a ≡ b = cc in
        subst (λ (x : ℕ). ClaimsSlot z.arena (view (here h s)) b x) y.1 (subst (λ (x : ℕ). ClaimsSlot z.arena (view (here h s)) x at) seat (record { size = size; claim = claim }))
  ]

  reserves : marks.May z a s (marks.Reserve at) × IsBeside z.arena (with_words h reserved.words) reserved
  reserves = (
    record { white = white-if (s.colour at) refl; empty = empty },
    beside-lasts z.arena (here h s) (with_words h reserved.words) s reserved c (record {
      words = refl;
      place = refl;
      types = refl;
      reach = λ n r. r;
      since = λ o is. is;
      known = λ o is. is;
      known_before = λ n o. record { made = o.made; placed = o.placed; known = o.known };
      bases = refl;
      extents = λ o is. record { size = refl; pointer = refl; noscan = refl };
      filling = λ o b is. let d = filling o b is in record { size = d.size; claim = d.claim };
      registers = c.registers;
      goes_on = c.goes_on;
    }),
  )

pub slots-reserved : ((c : ℕ) → c < 25 → 8 ≤ slot_of c) → TheHeapIsApart → SlotsAreReserved
slots-reserved least apart z a at size h s g m c claim fills =
    subst (λ (u : Words). Good z.arena (view (with_words h u)) → IsBeside z.arena (with_words h u) s → Claims z.arena (view (with_words h u)) a at size → marks.May z a s (marks.Reserve at) × IsBeside z.arena (with_words h (marks.moved z a s (marks.Reserve at)).words) (marks.moved z a s (marks.Reserve at))) c.words
    (λ good beside claimed. reserves least apart z a at size h s m fills good beside claimed) g c claim
