-- A swept span that nobody owns is taken, as both passes end.
use Rattle.std.proofs.Common.{◌≡◌, ℕ, ◌+◌, ◌^◌, ◌<◌, Bool, true, false, cond, None, Option, refl, sym, ap, ◌∙◌, arith, eq-eqb}
use Rattle.gh_central.proofs.Vocabulary.{Arena, Ask, Cell, EachFactLasts, EachMoveKeeps, EachOwnMoveLeaves, EachRightFollows, effect, Good, head_word, IsSpan, IsUnowned, KeepsObjects, Laying, Leaves, MayPass, moved, Others, Own, owner_at, owner_in, PackedWordsAreReadBack, page_of, PageWord, Right, Shared, SpanHead, SpanIsTaken, Steps, TheHeapIsApart, update, View, view}
use Rattle.gh_class.specs.declared.class.SpanClass.{SpanClass}
use Rattle.gh_heap.specs.Spans.{owned_by}

pub record Known : Type 0 where
  pub packed : PackedWordsAreReadBack
  pub keep : EachMoveKeeps
  pub follow : EachRightFollows
  pub leave : EachOwnMoveLeaves
  pub apart : TheHeapIsApart

-- whatever others do, it may be taken
pub unowned-lasts : EachFactLasts → (z : Arena) (a : ℕ) (v w : View) (wanted : SpanClass) (p : ℕ) (h : SpanHead) → Others z a v w → v.locked a ≡ true → IsUnowned wanted v.page v.generation p h → IsUnowned wanted w.page w.generation p h
unowned-lasts last z a v w wanted p h o l x = grind arith

-- what nobody owns the seat does not hold
not-held : (z : Arena) (a : ℕ) (v : View) (l : Bool) (held : ℕ → Bool) (y : Option Laying) (p : ℕ) → Good z v → Right a v l held y → owner_at v.page p ≡ 0 → held p ≡ false
not-held z a v l held y p g right none = grind arith

-- what the store of its head leaves
abbrev pub Taken : Arena → (a : ℕ) → (v w : View) → (ℕ → Bool) → SpanClass → (p : ℕ) → Type 0
Taken z a v w held wanted p = KeepsObjects v w × (Leaves v w × Right a w true (update held p true) None × SpanIsTaken z a wanted w.page p × (held p ≡ false))

module _ (k : Known) (z : Arena) (a : ℕ) (s : Shared) (held : ℕ → Bool) (wanted : SpanClass) (seat : ℕ) (whose : seat ≡ a) where
  abbrev now : View
  now = view s

  pub takes : (p : ℕ) (h : SpanHead) → Good z now → Right a now true held None → a + 1 < 2 ^ 8 → IsUnowned wanted now.page now.generation p h → Steps z a s (Ask.Store (Cell.Page p) (head_word (owned_by (seat + 1) h))) (λ t. Taken z a now (view t) held wanted p)
  takes p h g right seats x = record { move = Own p h; may = may; words_are = ap (λ (n : ℕ). effect s.words (Ask.Store (Cell.Page p) (head_word (owned_by (n + 1) h)))) (sym whose); after = ((refl, refl), (leaves, right-then, record { h = owned_by (a + 1) h; span = span; class = x.class; noscan = x.noscan; owner = refl }, not-held z a now true held None p g right (ap owner_in x.head ∙ x.owner))) } where
    may : MayPass now a p h × (h.owner ≡ 0) × (a + 1 < 2 ^ 8) × (h.number ≡ now.generation)
    may = (record { locked = right.locked; laying = right.laying; freeing = right.freeing; head = x.head }, x.owner, seats, x.number)

    t : Shared
    t = moved z a s (Own p h)

    leaves : Leaves now (view t)
    leaves = (k.leave z a s g).owned p h may

    right-then : Right a (view t) true (update held p true) None
    right-then = (k.follow z a s true held None right).owned p h

    written : (view t).page p ≡ head_word (owned_by (a + 1) h)
    written = ap (λ (b : Bool). cond b (head_word (owned_by (a + 1) h)) (now.page p)) (eq-eqb p p refl)

    before : IsSpan z.layout.pages now.page p h
    before = (k.apart z now g).locked a p h right.locked right.freeing x.head

    pages-few : h.pages < 2 ^ 13
    pages-few = omega (arith, before.within, z.layout.limits.pages_fit.1)

    number-few : h.number < 2 ^ 34
    number-few = omega (arith, (g.numbers p h x.head).few, g.generation)

    span : IsSpan z.layout.pages (view t).page p (owned_by (a + 1) h)
    span = (k.apart z (view t) (k.keep z a s (Own p h) g may)).held a p (owned_by (a + 1) h) (right-then.holds p ∙ ap (λ (b : Bool). cond b true (held p)) (eq-eqb p p refl)) (ap page_of written ∙ k.packed.page (PageWord.Head (owned_by (a + 1) h)) (record { class = before.fits.class; some = before.fits.some; pages = pages-few; owner = seats; number = number-few }))
