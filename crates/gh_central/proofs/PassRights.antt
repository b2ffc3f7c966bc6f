-- The pass's own steps are moves that its rights allow, and what it knows lasts. Of the heap it is known what the laws of gh_heap say.
use Rattle.std.proofs.Common.{◌≡◌, ◌≢◌, ℕ, ◌+◌, ◌*◌, ◌/◌, ◌%◌, ◌<◌, ◌≤◌, Bool, true, false, cond, ltb, inl, inr, Some, None, refl, sym, ap, subst, ◌∙◌, arith, ltb-true, ltb-false}
use Rattle.gh_central.proofs.Vocabulary.{after_page, alloc_word, Arena, asks, asks_at, at_stage, bit_at, Bits, Cell, cell_of, EachFactLasts, EachMoveKeeps, EachOwnMoveLeaves, EachRightFollows, Ended, eqb_tells, FactsAt, given, given_at, goes, goes_at, Good, HasPassed, InRange, is_own_class, is_wanted, IsFull, IsSpan, IsSure, IsUnowned, KeepsObjects, lacks_at, Leaves, Look, look_from, LooksAt, LooksInto, mod-eq_of_lt, mod-lt, number_of_class, Opens, Others, OwnStep, PackedWordsAreReadBack, page_of, PageWord, Pass, Passes, PassesByItsRights, PassStage, Quiet, Right, row_bit, Shared, slot_count, slot_of, slot_size, slot_words_of, slots_of, SlotsTakenBelow, Small, sought, SpanHead, Steps, Take, TheHeapIsApart, TheTestSaysIt, View, view, WritesHead}
use Rattle.gh_class.specs.declared.class.SizeClass.{SizeClass}
use Rattle.gh_central.proofs.Heads.{past-page, past-span}
use Rattle.gh_central.proofs.HeadTests.{wanted-is, wanted-test}
use Rattle.gh_central.proofs.Taking as taking
use Rattle.gh_central.specs.PassFacts.{Comes, Facts, Lasts}

pub record Known : Type 0 where
  pub packed : PackedWordsAreReadBack
  pub keep : EachMoveKeeps
  pub last : EachFactLasts
  pub follow : EachRightFollows
  pub leave : EachOwnMoveLeaves
  pub apart : TheHeapIsApart
  pub test : TheTestSaysIt
  pub least_slot : (c : ℕ) → c < 25 → 8 ≤ slot_of c

of-heap : Known → taking.Known
of-heap k = record { packed = k.packed; keep = k.keep; follow = k.follow; leave = k.leave; apart = k.apart }

-- it is the same routine at another stage
whose-at : (z : Arena) (a : ℕ) (v : View) (m : Pass) (q : PassStage) → Passes z a v m → Passes z a v (at_stage m q)
whose-at z a v m q h = record { seat = h.seat; few = h.few; number = h.number; class = h.class }

whose-of : (z : Arena) (a : ℕ) (v : View) (m : Pass) (q : PassStage) → Passes z a v (at_stage m q) → Passes z a v m
whose-of z a v m q h = record { seat = h.seat; few = h.few; number = h.number; class = h.class }

pub opens : Opens
opens z a sure v m whose stage = record {
  whose = whose;
  stage = subst (λ (q : PassStage). FactsAt z sure m v q) (sym stage) (record { there = omega (arith, z.layout.limits.pages_fit.0); full = λ is q h lt. absurd (omega arith) });
}

-- What is known lasts.

stage-lasts : Known → (z : Arena) (a : ℕ) (sure : Bool) (v w : View) (m : Pass) (q : PassStage) → Others z a v w → v.locked a ≡ true → FactsAt z sure m v q → FactsAt z sure m w q
stage-lasts k z a sure v w m (Look p) o l x = record { there = x.there; full = λ is. (k.last z a v w o).full_before (sought m) p l (x.full is) }
stage-lasts k z a sure v w m (Bits p h i) o l x = record {
  unowned = taking.unowned-lasts k.last z a v w m.wanted p h o l x.unowned;
  full = λ is. (k.last z a v w o).full_before (sought m) p l (x.full is);
  within = x.within;
  taken = λ j few below. subst (λ (n : ℕ). row_bit w.alloc n ≡ 1) (slot j h.class x.unowned.class) (o.bits p j h x.unowned.head x.unowned.number (count j h.class x.unowned.class few) (subst (λ (n : ℕ). row_bit v.alloc n ≡ 1) (sym (slot j h.class x.unowned.class)) (x.taken j few below)));
} where
  slot : (j : ℕ) (f : SizeClass) → f ≡ Small m.wanted.class → 1024 * p + j * cond (is_own_class f) (1024 * h.pages) (slot_of (number_of_class f) / 8) ≡ 1024 * p + j * slot_words_of m.wanted.class
  slot j f e = rw (e) refl

  count : (j : ℕ) (f : SizeClass) → f ≡ Small m.wanted.class → j < slots_of m.wanted.class → j < cond (is_own_class f) 1 (slots_of (number_of_class f))
  count j f e lt = rw (e) lt
stage-lasts k z a sure v w m (Take p h) o l x = taking.unowned-lasts k.last z a v w m.wanted p h o l x
stage-lasts k z a sure v w m (Ended taken) o l x = x

pub lasts : Known → Lasts
lasts k z a sure v w m o l x = record {
  whose = record { seat = x.whose.seat; few = x.whose.few; number = x.whose.number ∙ sym o.generation; class = x.whose.class };
  stage = stage-lasts k z a sure v w m m.stage o l x.stage;
}

-- The own steps.

module _ (k : Known) (z : Arena) (a : ℕ) (sure : Bool) (s : Shared) (held : ℕ → Bool) (m : Pass) where
  abbrev now : View
  now = view s

  -- what the next stage has, with nothing that was changed
  abbrev Goes : PassStage → Type 0
  Goes q = Comes z a sure now now held (given_at q) (at_stage m q)

  -- what holds of a head of the span class that nobody owns, once it is gone past
  abbrev IsDone : ℕ → SpanHead → Type 0
  IsDone q h = h.class ≡ Small m.wanted.class → h.noscan ≡ m.wanted.noscan → h.owner ≡ 0 → (h.number ≡ now.generation) × IsFull now.alloc q h

  -- each span is whole
  whole : Good z now → Right a now true held None → (p : ℕ) (h : SpanHead) → page_of (now.page p) ≡ PageWord.Head h → IsSpan z.layout.pages now.page p h
  whole g right p h = (k.apart z now g).locked a p h right.locked right.freeing

  stays : Good z now → Leaves now now
  stays g = (k.leave z a s g).stays

  -- a stage from which a look goes on, or the end
  looks : (p : ℕ) → Good z now → Right a now true held None → Passes z a now m → HasPassed sure (sought m) now p → (b : Bool) → ltb p z.layout.pages ≡ b → Goes (cond b (Look p) (Ended None))
  looks p g right whose full true t = (stays g, right, record { whose = whose-at z a now m (Look p) whose; stage = record { there = ltb-true p z.layout.pages t; full = full } })
  looks p g right whose full false t = (stays g, right, λ is q h lt. full is q h (omega (arith, ltb-false p z.layout.pages t)))

  look : (p : ℕ) → Good z now → Right a now true held None → IsSure z sure now → Passes z a now m → LooksAt z sure (sought m) now p → Goes (goes_at z.layout m (Look p) (now.page p))
  look p g right tidy whose x = go (page_of (now.page p)) refl where
    no-head : (w : PageWord) (h : SpanHead) → page_of (now.page p) ≡ w → w ≢ PageWord.Head h → page_of (now.page p) ≢ PageWord.Head h
    no-head w h e n f = n (sym e ∙ f)

    on-head : (h : SpanHead) → page_of (now.page p) ≡ PageWord.Head h → (b : Bool) → is_wanted m h ≡ b → Goes (cond b (Bits p h 0) (look_from z.layout (p + h.pages)))
    on-head h head true t =
        let w = wanted-is m h t in
        let span = g.spans p h head in (
          stays g,
          right,
          record {
            whose = whose-at z a now m (Bits p h 0) whose;
            stage = record {
              unowned = record { head = head; class = w.0; noscan = w.1; owner = w.2; number = w.3 ∙ whose.number };
              full = x.full;
              within = omega (arith, span.fits.some);
              taken = λ j few below. absurd (not-below p (j * slot_words_of m.wanted.class) below);
            };
          },
        ) where
          not-below : (p y : ℕ) → (1024 * p + y) / 64 < 16 * p + 0 → ⊥
          not-below p y lt = omega arith
    on-head h head false t = looks (p + h.pages) g right whose (λ is. past-span now.page IsDone z.layout.pages p h (whole g right p h head) (x.full is) (λ class noscan owner. absurd (clash (wanted-test m h class noscan owner ((tidy is p h x.there head owner).0 ∙ sym whose.number))))) (ltb (p + h.pages) z.layout.pages) refl where
      clash : is_wanted m h ≡ true → ⊥
      clash e = cc

    go : (w : PageWord) → page_of (now.page p) ≡ w → Goes (after_page z.layout m p w)
    go PageWord.Free e = looks (p + 1) g right whose (λ is. past-page now.page IsDone p (x.full is) (λ h. no-head PageWord.Free h e (λ f. absurd cc))) (ltb (p + 1) z.layout.pages) refl
    go (PageWord.Body b) e = looks (p + 1) g right whose (λ is. past-page now.page IsDone p (x.full is) (λ h. no-head (PageWord.Body b) h e (λ f. absurd cc))) (ltb (p + 1) z.layout.pages) refl
    go (PageWord.Head h) e = on-head h e (is_wanted m h) refl

  -- an alloc word of a span that is looked into
  abbrev slot_at : (p j : ℕ) → ℕ
  slot_at p j = 1024 * p + j * slot_words_of m.wanted.class

  lacks-none : (p i found : ℕ) → lacks_at m p i found ≡ false → (j : ℕ) → j < slots_of m.wanted.class → slot_at p j / 64 ≡ 16 * p + i → bit_at found (slot_at p j % 64) ≡ 1
  lacks-none p i found none j few at = grind arith

  word-is : (p i : ℕ) (h : SpanHead) → Good z now → Passes z a now m → LooksInto sure m.wanted (sought m) now p h i → alloc_word z.layout p i ≡ 16 * p + i
  word-is p i h g whose x =
      let span = g.spans p h x.unowned.head in
      mod-eq_of_lt (omega (arith, span.within, x.within))

  more-taken : (p i found : ℕ) (h : SpanHead) → found ≡ now.alloc (16 * p + i) → lacks_at m p i found ≡ false → LooksInto sure m.wanted (sought m) now p h i → SlotsTakenBelow m.wanted now.alloc p (i + 1)
  unfolding row_bit
  more-taken p i found h is none x j few below = elim (eqb_tells (slot_at p j / 64) (16 * p + i)) [
    | inl y ↦ rw (y.1) (subst (λ (w : ℕ). bit_at w (slot_at p j % 64) ≡ 1) is (lacks-none p i found none j few y.1))
    | inr n ↦ x.taken j few (omega (arith, n.1))
  ]

  all-taken : (p i : ℕ) (h : SpanHead) → Good z now → Right a now true held None → Passes z a now m → IsUnowned m.wanted now.page now.generation p h → 16 * h.pages ≤ i → SlotsTakenBelow m.wanted now.alloc p i → IsFull now.alloc p h
  all-taken p i h g right whose x le taken j few =
      let span = whole g right p h x.head in
      let counted : slot_count h ≡ slots_of m.wanted.class = rw (x.class) refl in
      let sized : slot_size h ≡ slot_words_of m.wanted.class = rw (x.class) refl in
      let some : 0 < slot_size h = rw (sized) (omega (arith, k.least_slot m.wanted.class whose.class)) in
      let inside = (k.apart z now g).inside p j (1024 * p + j * slot_size h) (slot_size h) 0 h (record { span = span; inside = few; size_is = refl; at = refl }) some in
      subst (λ (n : ℕ). row_bit now.alloc (1024 * p + j * n) ≡ 1) (sym sized) (taken j (subst (λ (n : ℕ). j < n) counted few) (below (j * slot_words_of m.wanted.class) (subst (λ (n : ℕ). 1024 * p + j * n + 0 < 1024 * (p + h.pages)) sized inside.1))) where
        below : (y : ℕ) → 1024 * p + y + 0 < 1024 * (p + h.pages) → (1024 * p + y) / 64 < 16 * p + i
        below y lt = omega (arith, le)

  bits : (p i found : ℕ) (h : SpanHead) → found ≡ now.alloc (16 * p + i) → Good z now → Right a now true held None → Passes z a now m → LooksInto sure m.wanted (sought m) now p h i → Goes (goes_at z.layout m (Bits p h i) found)
  bits p i found h is g right whose x = go (lacks_at m p i found) refl where
    more : lacks_at m p i found ≡ false → (b : Bool) → ltb (i + 1) (16 * h.pages) ≡ b → Goes (cond b (Bits p h (i + 1)) (look_from z.layout (p + h.pages)))
    more none true t = (stays g, right, record { whose = whose-at z a now m (Bits p h (i + 1)) whose; stage = record { unowned = x.unowned; full = x.full; within = ltb-true (i + 1) (16 * h.pages) t; taken = more-taken p i found h is none x } })
    more none false t = looks (p + h.pages) g right whose (λ sure_is. past-span now.page IsDone z.layout.pages p h (whole g right p h x.unowned.head) (x.full sure_is) (λ class noscan owner. (x.unowned.number, all-taken p (i + 1) h g right whose x.unowned (ltb-false (i + 1) (16 * h.pages) t) (more-taken p i found h is none x)))) (ltb (p + h.pages) z.layout.pages) refl

    go : (b : Bool) → lacks_at m p i found ≡ b → Goes (cond b (Take p h) (cond (ltb (i + 1) (16 * h.pages)) (Bits p h (i + 1)) (look_from z.layout (p + h.pages))))
    go true t = (stays g, right, record { whose = whose-at z a now m (Take p h) whose; stage = x.unowned })
    go false t = more t (ltb (i + 1) (16 * h.pages)) refl

  take : (p : ℕ) (h : SpanHead) → Good z now → Right a now true held None → Passes z a now m → IsUnowned m.wanted now.page now.generation p h → Steps z a s (asks z.layout (at_stage m (Take p h))) (λ t. KeepsObjects now (view t) × Comes z a sure now (view t) held (Some (Some p)) (at_stage m (Ended (Some p))))
  take p h g right whose x = taking.takes (of-heap k) z a s held m.wanted m.seat whose.seat p h g right whose.few x

  own-at : (q : PassStage) → Good z now → Right a now true held None → IsSure z sure now → Facts z a sure now (at_stage m q) →
      Steps z a s (asks z.layout (at_stage m q)) (λ t. KeepsObjects now (view t) × Comes z a sure now (view t) held (given (goes z.layout (at_stage m q) (s.words (cell_of (asks z.layout (at_stage m q)))))) (goes z.layout (at_stage m q) (s.words (cell_of (asks z.layout (at_stage m q))))))
  own-at (Look p) g right tidy x = record { move = Quiet (asks z.layout (at_stage m (Look p))); may = tt; words_are = refl; after = ((refl, refl), look p g right tidy (whose-of z a now m (Look p) x.whose) x.stage) }
  own-at (Bits p h i) g right tidy x =
      let whose = whose-of z a now m (Bits p h i) x.whose in
      record { move = Quiet (asks z.layout (at_stage m (Bits p h i))); may = tt; words_are = refl; after = ((refl, refl), bits p i (s.words (Cell.Alloc (alloc_word z.layout p i))) h (ap (λ (n : ℕ). now.alloc n) (word-is p i h g whose x.stage)) g right whose x.stage) }
  own-at (Take p h) g right tidy x = take p h g right (whose-of z a now m (Take p h) x.whose) x.stage
  own-at (Ended taken) g right tidy x = absurd x.stage

pub own : Known → OwnStep
own k z a sure s held m g right tidy x = own-at k z a sure s held m m.stage g right tidy x

-- Its words.

within-at : (z : Arena) (sure : Bool) (v : View) (m : Pass) (q : PassStage) → Good z v → FactsAt z sure m v q → InRange z.layout (cell_of (asks z.layout (at_stage m q)))
within-at z sure v m (Take p h) g x = let span = g.spans p h x.head in omega (arith, span.within, span.fits.some)
within-at z sure v m q g x = let fit = z.layout.limits.pages_fit.0 in grind (arith, mod-lt)

heads-at : (z : Arena) (sure : Bool) (v : View) (m : Pass) (q : PassStage) → FactsAt z sure m v q → WritesHead v.page (asks_at z.layout m q)
heads-at z sure v m q x = grind arith

pub passes_by_its_rights : Known → PassesByItsRights
passes_by_its_rights k = record {
  opens = opens;
  own_step = own k;
  within = λ z a sure v m g x. within-at z sure v m m.stage g x.stage;
  heads = λ z a sure v m x. heads-at z sure v m m.stage x.stage;
  lasts = lasts k;
}
