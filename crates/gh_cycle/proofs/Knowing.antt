-- What the words of the heap say of an object: the page in which it begins, its size and whether its type is noscan.
use Rattle.std.proofs.Common.{◌≡◌, ◌≢◌, ℕ, ◌+◌, ◌*◌, ◌/◌, ◌-◌, ◌<◌, ◌≤◌, ◌⊎◌, true, cond, inl, inr, refl, sym, ap, subst, arith, ◌∙◌}
use Rattle.gh_cycle.proofs.Vocabulary.{alloc_words, Arena, birth_words, bit, bitmap_words, body_at, eqb_tells, Good, Heap, is_own_class, IsBeside, IsMade, IsSizeClass, IsSlotOf, Marking, Name, number_of_class, ObjectsAreKnownBeside, page_noscan, page_of, page_words, PageWord, Placed, Row, size_for, SizeClass, slot_for, slot_in, slot_of, slots_of, SpanHead, TheHeapIsApart, view, Words}
use Rattle.gh_marks.specs.Knows.{KnowsObject, KnowsObjects}
use Rattle.gh_cycle.proofs.Going.Objects.{here, name-at}
use Rattle.gh_cycle.proofs.Quiet.{with_words}
use Rattle.gh_cycle.proofs.Said.{IsSaid, said-beside}

-- of the smallest slot, 8 bytes
abbrev LeastSlot : Type 0
LeastSlot = (c : ℕ) → c < 25 → 8 ≤ slot_of c

slot-of-class : (c : SizeClass) (k : ℕ) → slot_for c k ≡ cond (is_own_class c) (1024 * k) (slot_of (number_of_class c) / 8)
slot-of-class c k = grind arith

slot-of-small : (c : SizeClass) (k : ℕ) → c ≢ SizeClass.Large → slot_for c 1 ≡ cond (is_own_class c) (1024 * k) (slot_of (number_of_class c) / 8)
slot-of-small c k ne = grind arith

some-slot : LeastSlot → (c : SizeClass) (k : ℕ) → IsSizeClass c → 1 ≤ k → 1 ≤ cond (is_own_class c) (1024 * k) (slot_of (number_of_class c) / 8)
some-slot least c k below some = grind arith

-- the page in which a slot begins is the span's first, or a further one, and then its objects are not large
module _ (pages : ℕ) (row : Row) (p : ℕ) (h : SpanHead) (i a n : ℕ) (o : IsSlotOf pages row p h i a n) (low : 1024 * p ≤ a) (high : a < 1024 * (p + h.pages)) where
  abbrev IsFurther : Type 0
  IsFurther = (d : ℕ) × (h.class ≢ SizeClass.Large) × (page_of (row (a / 1024)) ≡ PageWord.Body (body_at h d))

  large-first : h.class ≡ SizeClass.Large → a / 1024 ≡ p
  large-first large =
      let few : i < 1 = subst (λ (c : SizeClass). i < cond (is_own_class c) 1 (slots_of (number_of_class c))) large o.inside in
      let first : i ≡ 0 = omega (arith, few) in
      let at : a ≡ 1024 * p + 0 * n = o.at ∙ ap (λ (j : ℕ). 1024 * p + j * n) first in
      omega (arith, at)

  page-read : (page_of (row (a / 1024)) ≡ PageWord.Head h) ⊎ IsFurther
  page-read = elim (eqb_tells (a / 1024) p) [
    | inl y ↦ inl (ap (λ (q : ℕ). page_of (row q)) y.1 ∙ o.span.head)
    | inr x ↦
        let above : p ≤ a / 1024 = omega (arith, low) in
        let below : a / 1024 < p + h.pages = omega (arith, high) in
        let further : 0 < a / 1024 - p = omega (arith, above, x.1) in
        let at : a / 1024 ≡ p + (a / 1024 - p) = omega (arith, above) in
        inr (a / 1024 - p, (λ large. x.1 (large-first large)), ap (λ (q : ℕ). page_of (row q)) at ∙ o.span.body (a / 1024 - p) further (omega (arith, above, below)))
  ]

  slot-read : slot_in (page_of (row (a / 1024))) ≡ n
  slot-read = grind (arith, page-read, slot-of-class, slot-of-small)

  noscan-read : page_noscan (page_of (row (a / 1024))) ≡ h.noscan
  noscan-read = grind (arith, page-read)

module _ (least : LeastSlot) (apart : TheHeapIsApart) (z : Arena) (h : Heap) (s : Marking) (g : Good z (view h)) where
  abbrev Known : (o : ℕ) → Type 0
  Known o = KnowsObject z.layout.pages (page_words h.words) (bitmap_words h.words) s.extents o

  known-at : (n : Name) → IsMade h.ever.made n → Placed (alloc_words h.words) (birth_words h.words) h.place n → IsSaid z h s n → Known (h.place n)
  known-at n was-made placed said =
      let x = g.slots n was-made placed in
      let sized = said.size in
      let some : 1 ≤ size_for z.shapes h.ever.type_of n = subst (λ (w : ℕ). 1 ≤ w) (sym x.slot.size_is) (some-slot least x.h.class x.h.pages x.slot.span.fits.class x.slot.span.fits.some) in
      let inside = λ (k : ℕ). (apart z (view h) g).inside x.p x.i (h.place n) (size_for z.shapes h.ever.type_of n) k x.h x.slot in
      let first = inside 0 (omega (arith, some)) in
      let last = inside (size_for z.shapes h.ever.type_of n - 1) (omega (arith, some)) in
      let low : 1024 * x.p ≤ h.place n = omega (arith, first.0) in
      let high : h.place n < 1024 * (x.p + x.h.pages) = omega (arith, first.1) in
      record {
        base_is = said.base;
        within = omega (arith, sized, some, last.1, x.slot.span.within);
        some = omega (arith, sized, some);
        size_is = slot-read z.layout.pages (page_words h.words) x.p x.h x.i (h.place n) (size_for z.shapes h.ever.type_of n) x.slot low high ∙ sym sized;
        noscan_is = noscan-read z.layout.pages (page_words h.words) x.p x.h x.i (h.place n) (size_for z.shapes h.ever.type_of n) x.slot low high ∙ x.noscan ∙ sym said.noscan;
        pointers_are = λ k l.
            let within : k < size_for z.shapes h.ever.type_of n = subst (λ (w : ℕ). k < w) sized l in
            g.pointers n k was-made placed within ∙ ap bit (sym (said.pointer k within));
      }

  -- of all objects of the cycle, where marking has the words of the heap
  known-all : s.words ≡ h.words → ((o : ℕ) → s.since o ≡ true → Known o) → (o : ℕ) → s.since o ≡ true → KnowsObject z.layout.pages (page_words s.words) (bitmap_words s.words) s.extents o
  known-all same known o since = subst (λ (w : Words). KnowsObject z.layout.pages (page_words w) (bitmap_words w) s.extents o) (sym same) (known o since)

-- while processors go on, those that were made since among them
pub objects-known-beside : LeastSlot → TheHeapIsApart → ObjectsAreKnownBeside
objects-known-beside least apart z h s g m c =
    subst (λ (u : Words). Good z.arena (view (with_words h u)) → IsBeside z.arena (with_words h u) s → KnowsObjects z s) c.words
    (λ good beside. known-all least apart z.arena (here h s) s good refl (λ o since.
    let n = name-at z h s good m o (m.objects.of_cycle o since) in
    subst (Known least apart z.arena (here h s) s good) n.at (known-at least apart z.arena (here h s) s good n.name n.of.made n.of.placed (said-beside z.arena (here h s) s beside n.name n.of)))) g c
