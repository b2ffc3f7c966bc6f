-- The head of a fresh span is laid: what holds at every moment is kept.
use Rattle.std.proofs.Common.{◌≡◌, ◌≢◌, ℕ, ◌+◌, ◌*◌, ◌^◌, ◌<◌, ◌≤◌, Bool, true, false, cond, leb, ltb, refl, sym, ap, subst, ◌∙◌, arith, inl, inr, ◌&&◌, count_ones}
use Rattle.gh_sweep.proofs.Vocabulary.{ApartGood, AreDisjoint, bit_words_of, CycleEnd, Done, eqb_tells, FewGood, generation_of, Good, Head, head_word, HeapGood, InSpan, IsNumbered, MayLay, nat_tests, ones_le_self, page_of, placed, placed_behind, placed_in, Row, slot_bytes, slots_laid, SlotsGood, SpanHead, UncutGood, UntouchedGood, View, with_word}
use Rattle.gh_sweep.proofs.Bits.{sum_same}
use Rattle.gh_sweep.proofs.Sharing.KeepsPages.{few_bytes, head_in, Known, reads, says}
use Rattle.gh_sweep.proofs.Sharing.Pages.{heads_written, inside_forth, left_forth, no_head_done, numbers_kept, off_forth, same_head, unswept_done}

-- the slots of a word in the span, and in no page of it
slot_in_span : (slot : Row) (p : ℕ) (h : SpanHead) (i : ℕ) → 16 * p ≤ i → i < 16 * (p + h.pages) → slots_laid slot p h i ≡ slot_bytes h
slot_in_span slot p h i low high =
    let a : leb (16 * p) i ≡ true = grind (arith, nat_tests) in
    let b : ltb i (16 * (p + h.pages)) ≡ true = grind (arith, nat_tests) in
    rw (a, b) refl

slot_off_span : (slot : Row) (p : ℕ) (h : SpanHead) (i : ℕ) → (16 * p ≤ i → i < 16 * (p + h.pages) → ⊥) → slots_laid slot p h i ≡ slot i
slot_off_span slot p h i off = grind arith

-- a word of one span is in no other
in_one : (p i : ℕ) (h : SpanHead) (q : ℕ) (g : SpanHead) → AreDisjoint p h q g → 16 * q ≤ i → i < 16 * (q + g.pages) → 16 * p ≤ i → i < 16 * (p + h.pages) → ⊥
in_one p i h q g h2 a b c d = grind arith

module _ (k : Known) (e : CycleEnd) (v : View) (g : Good e v) (p : ℕ) (h : SpanHead) (may : MayLay e v.page p h) where
  abbrev page_then : Row
  page_then = with_word v.page p (head_word h)

  abbrev slot_then : Row
  slot_then = slots_laid v.slot p h

  -- no span begins there yet
  pub none_there : (j : SpanHead) → page_of (v.page p) ≢ Head j
  none_there j is =
      let some = may.fits.some in
      let more = (g.heads p j is).fits.some in
      elim (may.apart p j is) [ inl x ↦ absurd (omega arith) | inr y ↦ absurd (omega arith) ]

  not_there : (q : ℕ) (j : SpanHead) → page_of (v.page q) ≡ Head j → p ≢ q
  not_there q j is same = none_there j (ap (λ (n : ℕ). page_of (v.page n)) same ∙ is)

  -- a head then is this one, or was one before
  data Laid (q : ℕ) (j : SpanHead) : Type 0 where
    IsIt : p ≡ q → h ≡ j → Laid q j
    IsOld : p ≢ q → page_of (v.page q) ≡ Head j → Laid q j

  laid : (q : ℕ) (j : SpanHead) → page_of (page_then q) ≡ Head j → Laid q j
  laid q j is = elim (eqb_tells p q) [
    | inl y ↦ IsIt y.1 (same_head h j (sym (reads k h may.fits) ∙ (rw (y.0) at is)))
    | inr n ↦ IsOld n.1 (rw (n.0) at is)
  ]

  apart_then : ApartGood page_then
  apart_then q r i j e f ne = go (laid q i e) (laid r j f) where
    go : Laid q i → Laid r j → AreDisjoint q i r j
    go (IsIt a b) (IsIt c d) = absurd (ne (sym a ∙ c))
    go (IsIt a b) (IsOld c d) = subst (λ (x : SpanHead). AreDisjoint q x r j) b (subst (λ (n : ℕ). AreDisjoint n h r j) a (may.apart r j d))
    go (IsOld a b) (IsIt c d) = elim (may.apart q i b) [
      | inl x ↦ let same = ap (λ (y : SpanHead). y.pages) d in inr (omega arith)
      | inr x ↦ inl (omega arith)
    ]
    go (IsOld a b) (IsOld c d) = g.apart q r i j b d ne

  pub done_there : v.far p ≡ Done
  done_there = no_head_done (generation_of e) v.page v.far g.numbers p none_there

  untouched_then : UntouchedGood page_then v.far v.cut v.clear
  untouched_then i s un = go (laid s.p s.h s.head) where
    go : Laid s.p s.h → (v.cut i ≡ false) × (v.clear i ≡ false)
    go (IsIt a b) = absurd (unswept_done (sym un ∙ (ap v.far (sym a) ∙ done_there)))
    go (IsOld a b) = g.untouched i (record { p = s.p; h = s.h; head = b; from = s.from; below = s.below }) un

  -- no word of it is of another span
  in_other : (i : ℕ) → InSpan v.page i → 16 * p ≤ i → i < 16 * (p + h.pages) → ⊥
  in_other i s low high = in_one p i h s.p s.h (may.apart s.p s.h s.head) s.from s.below low high

  slots_then : SlotsGood page_then slot_then
  slots_then i s = go (laid s.p s.h s.head) where
    go : Laid s.p s.h → slot_then i ≡ slot_bytes s.h
    go (IsIt a b) =
        let low = s.from in
        let high = s.below in
        let same = ap (λ (y : SpanHead). y.pages) b in
        slot_in_span v.slot p h i (omega arith) (omega arith) ∙ ap slot_bytes b
    go (IsOld a b) = let old : InSpan v.page i = record { p = s.p; h = s.h; head = b; from = s.from; below = s.below } in slot_off_span v.slot p h i (in_other i old) ∙ g.slots i old

  few_then : FewGood slot_then
  few_then i = go (leb (16 * p) i && ltb i (16 * (p + h.pages))) where
    go : (b : Bool) → cond b (slot_bytes h) (v.slot i) ≤ 2 ^ 26
    go true = few_bytes k h may.fits
    go false = g.few i

  uncleared : (i : ℕ) → v.cut i ≡ false → v.clear i ≡ false
  uncleared i un = grind arith

  uncut_then : UncutGood e.slot slot_then v.cut
  uncut_then i un = slot_off_span v.slot p h i (in_other i (g.unswept i (uncleared i un)).span) ∙ g.uncut_slots i un

  -- the bytes that stand are the same, since no object stands there
  same_bytes : (i : ℕ) → placed_in v.alloc slot_then i ≡ placed_in v.alloc v.slot i
  same_bytes i = elim (eqb_tells (v.alloc i) 0) [
    | inl y ↦
        let none : count_ones 0 ≡ 0 = omega (arith, ones_le_self 0) in
        let is : placed_in v.alloc slot_then i ≡ 0 * slot_then i = ap (λ (n : ℕ). count_ones n * slot_then i) y.1 ∙ ap (λ (n : ℕ). n * slot_then i) none in
        let was : placed_in v.alloc v.slot i ≡ 0 * v.slot i = ap (λ (n : ℕ). count_ones n * v.slot i) y.1 ∙ ap (λ (n : ℕ). n * v.slot i) none in
        omega (arith, is, was)
    | inr n ↦ ap (λ (x : ℕ). count_ones (v.alloc i) * x) (slot_off_span v.slot p h i (in_other i (g.inside i n.1)))
  ]

  placed_same : placed v.alloc slot_then (bit_words_of e) ≡ placed v.alloc v.slot (bit_words_of e)
  placed_same = sum_same (placed_in v.alloc slot_then) (placed_in v.alloc v.slot) (bit_words_of e) (λ i l. same_bytes i)

  behind_same : placed_behind v.alloc slot_then v.cut (bit_words_of e) ≡ placed_behind v.alloc v.slot v.cut (bit_words_of e)
  behind_same = sum_same (λ i. cond (v.cut i) (placed_in v.alloc slot_then i) 0) (λ i. cond (v.cut i) (placed_in v.alloc v.slot i) 0) (bit_words_of e) (λ i l. ap (λ (n : ℕ). cond (v.cut i) n 0) (same_bytes i))

  counted_then : HeapGood e v.heap v.alloc slot_then v.cut v.due v.pend
  counted_then = record {
    heap = omega (arith, g.counted.heap, placed_same);
    pending = omega (arith, g.counted.pending, behind_same);
    freed = g.counted.freed;
  }

  pub lays : Good e (record v { page = page_then; slot = slot_then })
  lays = record {
    generation = g.generation;
    heads = heads_written v.page p (head_word h) e.layout.pages (head_in k e.layout.pages p h may.fits may.within) g.heads;
    apart = apart_then;
    numbers = numbers_kept v.page p (head_word h) (generation_of e) v.far (says k (generation_of e) h (v.far p) may.fits (subst (λ f. IsNumbered (generation_of e) h f) (sym done_there) may.number)) g.numbers;
    untouched = untouched_then;
    unswept = left_forth v.page page_then v.far v.far v.clear (λ i s c ne. (off_forth v.page p (head_word h) s.p s.h (not_there s.p s.h s.head) s.head, ne)) g.unswept;
    order = g.order;
    marks = g.marks;
    uncut = g.uncut;
    uncut_slots = uncut_then;
    slots = slots_then;
    few = few_then;
    inside = inside_forth v.page page_then v.alloc (λ i s ne. off_forth v.page p (head_word h) s.p s.h (not_there s.p s.h s.head) s.head) g.inside;
    fits = g.fits;
    stand = g.stand;
    known = g.known;
    only_since = g.only_since;
    told = g.told;
    tallied = g.tallied;
    lives = g.lives;
    counted = counted_then;
  }
