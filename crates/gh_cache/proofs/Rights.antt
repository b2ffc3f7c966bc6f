-- Its own steps change nothing, and what it knows lasts. Of the heap it is known what the laws of gh_heap say.
use Rattle.std.proofs.Common.{◌≡◌, ◌≢◌, ℕ, ◌+◌, ◌*◌, ◌/◌, ◌%◌, ◌<◌, ◌≤◌, Bool, true, false, cond, eqb, ltb, inl, inr, Option, Some, None, refl, sym, ap, subst, ◌∙◌, arith, eqb-true, ltb-true, ltb-false}
use Rattle.std.proofs.lemmas.Bool.{eqb-false}
use Rattle.std.specs.Int.{bit_at}
use Rattle.std.proofs.lemmas.Nat.Bits.{bit_at-lt}
use Rattle.gh_cache.proofs.Vocabulary.{alloc_word, asks, at_stage, Cached, Ended, eqb_tells, given, given_at, goes, goes_at, IsSizeClass, Look, mod-eq_of_lt, mod-lt, passed, Searching, slot_at, slot_of, slot_words_of, slots_of, SlotStage}
use Rattle.gh_base.specs.declared.cell.Cell.{Cell}
use Rattle.gh_base.specs.Rows.{row_bit}
use Rattle.gh_base.specs.Steps.{cell_of}
use Rattle.gh_class.specs.declared.class.SizeClass.{SizeClass}
use Rattle.gh_heap.specs.Laws.{TheHeapIsApart}
use Rattle.gh_heap.specs.Moves.{KeepsObjects, Others, Quiet, Steps}
use Rattle.gh_heap.specs.Rights.{Arena, Good, Right, Shared, View, view}
use Rattle.gh_heap.specs.Spans.{IsFull, IsSlotOf, Laying, is_own_class, number_of_class, owner_at, owner_in, slot_size}
use Rattle.gh_cache.specs.Facts.{Comes, Facts, Lasts, OwnStep, SearchesByItsRights, SpanIsHeld, TakenBelow, Within}

pub record Known : Type 0 where
  pub apart : TheHeapIsApart
  pub least_slot : (c : ℕ) → c < 25 → 8 ≤ slot_of c

held-lasts : (z : Arena) (a : ℕ) (v w : View) (span : Cached) (noscan : Bool) → Good z v → Others z a v w → SpanIsHeld a v span noscan → SpanIsHeld a w span noscan
held-lasts z a v w span noscan g o x = record {
  h = x.h;
  head = o.heads span.head x.h x.held x.head;
  class = x.class;
  noscan_is = x.noscan_is;
  held = o.holds span.head ∙ x.held;
}

lasts : Lasts
lasts z a v w noscan m g o x = record {
  span = held-lasts z a v w m.span noscan g o x.span;
  stage = x.stage;
  cursor = x.cursor;
  taken = λ j lt. still j (λ few. x.taken j lt) lt;
} where
  -- the span that it holds is swept
  number : x.span.h.number ≡ v.generation
  number = (g.numbers m.span.head x.span.h x.span.head).owned (λ none. let is : owner_at v.page m.span.head ≡ x.span.h.owner = ap owner_in x.span.head in omega (arith, (g.owners a m.span.head).1 x.span.held, is, none))

  slot : (j : ℕ) (f : SizeClass) → f ≡ SizeClass.Small m.span.class → 1024 * m.span.head + j * cond (is_own_class f) (1024 * x.span.h.pages) (slot_of (number_of_class f) / 8) ≡ slot_at m.span j
  slot j f e = rw (e) refl

  count : (j : ℕ) (f : SizeClass) → f ≡ SizeClass.Small m.span.class → j < slots_of m.span.class → j < cond (is_own_class f) 1 (slots_of (number_of_class f))
  count j f e lt = rw (e) lt

  still : (j : ℕ) → (j < m.span.cursor → row_bit v.alloc (slot_at m.span j) ≡ 1) → j < m.span.cursor → row_bit w.alloc (slot_at m.span j) ≡ 1
  still j taken lt =
      let few = x.cursor in
      subst (λ (n : ℕ). row_bit w.alloc n ≡ 1) (slot j x.span.h.class x.span.class) (o.bits m.span.head j x.span.h x.span.head number (count j x.span.h.class x.span.class (omega (arith, lt, few))) (subst (λ (n : ℕ). row_bit v.alloc n ≡ 1) (sym (slot j x.span.h.class x.span.class)) (taken lt)))

module _ (k : Known) (z : Arena) (a : ℕ) (v : View) (noscan : Bool) (m : Searching) where
  -- a slot of the span
  slot_is : (j : ℕ) → Good z v → (x : SpanIsHeld a v m.span noscan) → j < slots_of m.span.class → IsSlotOf z.layout.pages v.page m.span.head x.h j (slot_at m.span j) (slot_words_of m.span.class)
  slot_is j g x few = record {
    span = (k.apart z v g).held a m.span.head x.h x.held x.head;
    inside = rw (x.class) few;
    size_is = rw (x.class) refl;
    at = refl;
  }

  -- the word that has its bit
  word_is : (j : ℕ) → Good z v → (x : SpanIsHeld a v m.span noscan) → j < slots_of m.span.class → alloc_word z.layout (slot_at m.span j) ≡ slot_at m.span j / 64
  word_is j g x few =
      let span = g.spans m.span.head x.h x.head in
      let below : m.span.class < 25 = class_below x.h.class m.span.class x.class span.fits.class in
      let inside = (k.apart z v g).inside m.span.head j (slot_at m.span j) (slot_words_of m.span.class) 0 x.h (slot_is j g x few) (omega (arith, k.least_slot m.span.class below)) in
      mod-eq_of_lt (omega (arith, inside.1, span.within)) where
        class_below : (class : SizeClass) (c : ℕ) → class ≡ SizeClass.Small c → IsSizeClass class → c < 25
        class_below class c e fits = subst IsSizeClass e fits

  -- the slot at the cursor is taken: so are those before the next
  more_taken : row_bit v.alloc (slot_at m.span m.span.cursor) ≡ 1 → TakenBelow v.alloc m.span → (j : ℕ) → j < m.span.cursor + 1 → row_bit v.alloc (slot_at m.span j) ≡ 1
  more_taken set taken j lt = elim (eqb_tells j m.span.cursor) [ inl y ↦ rw (y.1) set | inr n ↦ taken j (omega (arith, n.1)) ]

  looked : (found : ℕ) → bit_at found (slot_at m.span m.span.cursor % 64) ≡ row_bit v.alloc (slot_at m.span m.span.cursor) → Good z v → (x : Facts z a v noscan m) → Comes z a v noscan (given (goes_at m Look found)) (goes_at m Look found)
  looked found is g x = go (eqb (bit_at found (slot_at m.span m.span.cursor % 64)) 0) refl where
    next : row_bit v.alloc (slot_at m.span m.span.cursor) ≡ 1 → (b : Bool) → ltb (m.span.cursor + 1) (slots_of m.span.class) ≡ b →
        Comes z a v noscan (given_at (cond b Look (Ended None))) (record m { span = record (m.span) { cursor = m.span.cursor + 1 }; stage = cond b Look (Ended None) })
    next set true t = record {
      span = record { h = x.span.h; head = x.span.head; class = x.span.class; noscan_is = x.span.noscan_is; held = x.span.held };
      stage = refl;
      cursor = ltb-true (m.span.cursor + 1) (slots_of m.span.class) t;
      taken = more_taken set x.taken;
    }
    next set false t = record {
      span_held = record { h = x.span.h; head = x.span.head; class = x.span.class; noscan_is = x.span.noscan_is; held = x.span.held };
      full = full (ltb-false (m.span.cursor + 1) (slots_of m.span.class) t);
    } where
      full : slots_of m.span.class ≤ m.span.cursor + 1 → IsFull v.alloc m.span.head x.span.h
      full le j few =
          let counted : j < slots_of m.span.class = subst (λ (n : ℕ). j < n) (rw (x.span.class) refl) few in
          let sized : slot_size x.span.h ≡ slot_words_of m.span.class = rw (x.span.class) refl in
          subst (λ (n : ℕ). row_bit v.alloc (1024 * m.span.head + j * n) ≡ 1) (sym sized) (more_taken set x.taken j (omega arith))

    go : (b : Bool) → eqb (bit_at found (slot_at m.span m.span.cursor % 64)) 0 ≡ b →
        Comes z a v noscan (given (cond b (at_stage m (Ended (Some m.span.cursor))) (passed m))) (cond b (at_stage m (Ended (Some m.span.cursor))) (passed m))
    go true t = record {
      claim = record { p = m.span.head; h = x.span.h; i = m.span.cursor; held = x.span.held; slot = slot_is m.span.cursor g x.span x.cursor; clear = sym is ∙ eqb-true _ 0 t };
      class = x.span.class;
      noscan_is = x.span.noscan_is;
      span_held = record { h = x.span.h; head = x.span.head; class = x.span.class; noscan_is = x.span.noscan_is; held = x.span.held };
      here = refl;
      below = x.cursor;
      taken = x.taken;
    }
    go false t = next (sym is ∙ set (bit_at found (slot_at m.span m.span.cursor % 64)) (bit_at-lt found (slot_at m.span m.span.cursor % 64)) (eqb-false _ 0 t)) (ltb (m.span.cursor + 1) (slots_of m.span.class)) refl where
      set : (n : ℕ) → n < 2 → n ≢ 0 → n ≡ 1
      set n lt ne = omega arith

own-at : Known → (z : Arena) (a : ℕ) (s : Shared) (l : Bool) (held : ℕ → Bool) (y : Option Laying) (noscan : Bool) (m : Searching) (q : SlotStage) → q ≡ Look → Good z (view s) → Right a (view s) l held y → Facts z a (view s) noscan (at_stage m q) →
    Steps z a s (asks z.layout (at_stage m q)) (λ t. KeepsObjects (view s) (view t) × Right a (view t) l held y × Comes z a (view t) noscan (given (goes (at_stage m q) (s.words (cell_of (asks z.layout (at_stage m q)))))) (goes (at_stage m q) (s.words (cell_of (asks z.layout (at_stage m q))))))
unfolding row_bit
own-at k z a s l held y noscan m Look e g right x = record {
  move = Quiet (asks z.layout (at_stage m Look));
  may = tt;
  words_are = refl;
  after = ((refl, refl), record { locked = right.locked; holds = right.holds; laying = right.laying; freeing = right.freeing }, looked k z a (view s) noscan (at_stage m Look) (s.words (Cell.Alloc (alloc_word z.layout (slot_at m.span m.span.cursor)))) (ap (λ (i : ℕ). bit_at (s.words (Cell.Alloc i)) (slot_at m.span m.span.cursor % 64)) (word_is k z a (view s) noscan (at_stage m Look) m.span.cursor g x.span x.cursor)) g x);
}
own-at k z a s l held y noscan m (Ended slot) e g right x = absurd (cc)

own : Known → OwnStep
own k z a s l held y noscan m g right x = own-at k z a s l held y noscan m m.stage x.stage g right x

within : Within
within z a v noscan m x = let fit = z.layout.limits.pages_fit.0 in grind (arith, mod-lt)

pub searches_by_its_rights : Known → SearchesByItsRights
searches_by_its_rights k = record { own_step = own k; within = within; lasts = lasts }
