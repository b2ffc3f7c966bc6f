-- A page word changes: what is said of spans, and of the words of bits that lie in them.
use Rattle.std.proofs.Common.{◌≡◌, ◌≢◌, ℕ, ◌+◌, ◌*◌, ◌<◌, ◌≤◌, Bool, true, false, refl, sym, ap, subst, ◌∙◌, arith, inl, inr}
use Rattle.gh_sweep.proofs.Vocabulary.{ApartGood, By, Done, eqb_tells, Far, Head, HeadsGood, InsideGood, InSpan, IsHeadIn, IsNumbered, LeftGood, NumbersGood, page_of, PageWord, Row, SaysFar, slot_bytes, SlotsGood, SpanHead, Unswept, UntouchedGood, update, with_word}
use Rattle.gh_sweep.proofs.Sharing.Sums.{off_entry}

pub same_head : (h g : SpanHead) → Head h ≡ Head g → h ≡ g
same_head h g e = cc

pub unswept_done : Unswept ≡ Done → ⊥
unswept_done e = cc

pub by_done : (a : ℕ) → By a ≡ Done → ⊥
by_done a e = cc

pub unswept_by : (a : ℕ) → Unswept ≡ By a → ⊥
unswept_by a e = cc

pub same_by : (a b : ℕ) → By a ≡ By b → a ≡ b
same_by a b e = cc

-- What a head's number tells.

module _ (generation : ℕ) (page : Row) (far : ℕ → Far) (good : NumbersGood generation page far) where
  pub numbered : (p : ℕ) (h : SpanHead) → page_of (page p) ≡ Head h → IsNumbered generation h (far p)
  numbered p h e = subst (λ (w : PageWord). SaysFar generation w (far p)) e (good p)

  pub far_unswept : (p : ℕ) (h : SpanHead) → page_of (page p) ≡ Head h → h.number + 2 ≡ generation → far p ≡ Unswept
  far_unswept p h e n = grind arith

  pub far_done : (p : ℕ) (h : SpanHead) → page_of (page p) ≡ Head h → h.number ≡ generation → far p ≡ Done
  far_done p h e n = grind arith

  -- what is no span's first page
  pub no_head_done : (p : ℕ) → ((h : SpanHead) → page_of (page p) ≢ Head h) → far p ≡ Done
  no_head_done p none = grind arith

-- a head with as many pages and bytes of a slot
pub record Alike (word : ℕ) (g : SpanHead) : Type 0 where
  pub h : SpanHead
  pub head : page_of word ≡ Head h
  pub pages : h.pages ≡ g.pages
  pub bytes : slot_bytes h ≡ slot_bytes g

abbrev pub AreAlike : (row other : Row) → Type 0
AreAlike row other = (q : ℕ) (g : SpanHead) → page_of (other q) ≡ Head g → Alike (row q) g

-- a word of bits lies in the span of the same first page
abbrev pub alike_span : (row other : Row) (i : ℕ) (s : InSpan other i) → Alike (row s.p) s.h → InSpan row i
alike_span row other i s a = record { p = s.p; h = a.h; head = a.head; from = s.from; below = subst (λ (n : ℕ). i < 16 * (s.p + n)) (sym a.pages) s.below }

module _ (row other : Row) (back : AreAlike row other) where
  pub apart_back : ApartGood row → ApartGood other
  apart_back good p q h g e f ne =
      let a = back p h e in
      let b = back q g f in
      let ap = a.pages in
      let bp = b.pages in
      elim (good p q a.h b.h a.head b.head ne) [ inl x ↦ inl (omega arith) | inr y ↦ inr (omega arith) ]

  pub slots_back : (slot : Row) → SlotsGood row slot → SlotsGood other slot
  slots_back slot good i s = let a = back s.p s.h s.head in good i (alike_span row other i s a) ∙ a.bytes

  pub untouched_back : (far then : ℕ → Far) (cut clear : ℕ → Bool) → ((p : ℕ) → then p ≡ Unswept → far p ≡ Unswept) → UntouchedGood row far cut clear → UntouchedGood other then cut clear
  untouched_back far then cut clear was good i s e = good i (alike_span row other i s (back s.p s.h s.head)) (was s.p e)

module _ (row other : Row) (far then : ℕ → Far) where
  pub left_forth : (clear : ℕ → Bool) → ((i : ℕ) (s : InSpan row i) → clear i ≡ false → far s.p ≢ Done → Alike (other s.p) s.h × (then s.p ≢ Done)) → LeftGood row far clear → LeftGood other then clear
  left_forth clear forth good i e =
      let was = good i e in
      let is = forth i was.span e was.unswept in
      record { span = alike_span other row i was.span is.0; unswept = is.1 }

pub inside_forth : (row other alloc : Row) → ((i : ℕ) (s : InSpan row i) → alloc i ≢ 0 → Alike (other s.p) s.h) → InsideGood row alloc → InsideGood other alloc
inside_forth row other alloc forth good i ne = let was = good i ne in alike_span other row i was (forth i was ne)

-- The word of page p is written.
module _ (page : Row) (p word : ℕ) where
  pub elsewhere : (q : ℕ) → p ≢ q → page_of (with_word page p word q) ≡ page_of (page q)
  elsewhere q ne = ap page_of (off_entry page p q word ne)

  pub heads_written : (pages : ℕ) → ((h : SpanHead) → page_of word ≡ Head h → IsHeadIn pages word p h) → HeadsGood pages page → HeadsGood pages (with_word page p word)
  heads_written pages is good q h e = elim (eqb_tells p q) [
    | inl y ↦ rw (y.0) (subst (λ (n : ℕ). IsHeadIn pages word n h) y.1 (is h (rw (y.0) at e)))
    | inr n ↦ rw (n.0) (good q h (rw (n.0) at e))
  ]

  pub numbers_written : (generation : ℕ) (far : ℕ → Far) (f : Far) → SaysFar generation (page_of word) f → NumbersGood generation page far → NumbersGood generation (with_word page p word) (update far p f)
  numbers_written generation far f is good q = elim (eqb_tells p q) [
    | inl y ↦ rw (y.0) is
    | inr n ↦ rw (n.0) (good q)
  ]

  pub numbers_kept : (generation : ℕ) (far : ℕ → Far) → SaysFar generation (page_of word) (far p) → NumbersGood generation page far → NumbersGood generation (with_word page p word) far
  numbers_kept generation far is good q = elim (eqb_tells p q) [
    | inl y ↦ rw (y.0) (subst (λ (n : ℕ). SaysFar generation (page_of word) (far n)) y.1 is)
    | inr n ↦ rw (n.0) (good q)
  ]

  -- with another head of as many pages
  module _ (h g : SpanHead) (was : page_of (page p) ≡ Head h) (is : page_of word ≡ Head g) (pages : h.pages ≡ g.pages) (bytes : slot_bytes h ≡ slot_bytes g) where
    pub head_back : AreAlike page (with_word page p word)
    head_back q k e = elim (eqb_tells p q) [
      | inl y ↦
          let same : g ≡ k = same_head g k (sym is ∙ (rw (y.0) at e)) in
          record { h = h; head = ap (λ (n : ℕ). page_of (page n)) (sym y.1) ∙ was; pages = pages ∙ ap (λ (x : SpanHead). x.pages) same; bytes = bytes ∙ ap slot_bytes same }
      | inr n ↦ record { h = k; head = rw (n.0) at e; pages = refl; bytes = refl }
    ]

    pub head_forth : AreAlike (with_word page p word) page
    head_forth q k e = elim (eqb_tells p q) [
      | inl y ↦
          let same : h ≡ k = same_head h k (sym was ∙ (ap (λ (n : ℕ). page_of (page n)) y.1 ∙ e)) in
          record { h = g; head = rw (y.0) is; pages = sym pages ∙ ap (λ (x : SpanHead). x.pages) same; bytes = sym bytes ∙ ap slot_bytes same }
      | inr n ↦ record { h = k; head = rw (n.0) e; pages = refl; bytes = refl }
    ]

  -- a page that is no span's first, and is none then
  module _ (was : (h : SpanHead) → page_of (page p) ≢ Head h) (is : (h : SpanHead) → page_of word ≢ Head h) where
    pub turn_back : AreAlike page (with_word page p word)
    turn_back q k e = elim (eqb_tells p q) [
      | inl y ↦ absurd (is k (rw (y.0) at e))
      | inr n ↦ record { h = k; head = rw (n.0) at e; pages = refl; bytes = refl }
    ]

    pub turn_forth : AreAlike (with_word page p word) page
    turn_forth q k e = elim (eqb_tells p q) [
      | inl y ↦ absurd (was k (ap (λ (n : ℕ). page_of (page n)) y.1 ∙ e))
      | inr n ↦ record { h = k; head = rw (n.0) e; pages = refl; bytes = refl }
    ]

  -- a page whose word has no head then
  pub gone_back : ((h : SpanHead) → page_of word ≢ Head h) → AreAlike page (with_word page p word)
  gone_back is q k e = elim (eqb_tells p q) [
    | inl y ↦ absurd (is k (rw (y.0) at e))
    | inr n ↦ record { h = k; head = rw (n.0) at e; pages = refl; bytes = refl }
  ]

  pub off_forth : (q : ℕ) (k : SpanHead) → p ≢ q → page_of (page q) ≡ Head k → Alike (with_word page p word q) k
  off_forth q k ne e = record { h = k; head = elsewhere q ne ∙ e; pages = refl; bytes = refl }

-- Spans have no word of bits in common.

pub one_span : (page : Row) → ApartGood page → (i p : ℕ) (h : SpanHead) → page_of (page p) ≡ Head h → 16 * p ≤ i → i < 16 * (p + h.pages) → (s : InSpan page i) → s.p ≡ p
one_span page good i p h e from below s = elim (eqb_tells s.p p) [
  | inl y ↦ y.1
  | inr n ↦
      let low = s.from in
      let high = s.below in
      elim (good s.p p s.h h s.head e n.1) [ inl x ↦ absurd (omega arith) | inr y ↦ absurd (omega arith) ]
]

-- the marks of a swept span's words are cleared
pub swept_clear : (generation : ℕ) (page : Row) (far : ℕ → Far) (clear : ℕ → Bool) → ApartGood page → NumbersGood generation page far → LeftGood page far clear → (i : ℕ) (s : InSpan page i) → s.h.number ≡ generation → clear i ≡ true
swept_clear generation page far clear apart numbers unswept i s n = grind arith
