-- The steps of the freeing of empty spans are moves that its rights allow, and what it knows lasts. Of the heap it is known what the laws of gh_heap say.
use Rattle.std.proofs.Common.{◌≡◌, ◌≢◌, ℕ, ◌+◌, ◌-◌, ◌*◌, ◌/◌, ◌%◌, ◌<◌, ◌≤◌, Bool, true, false, cond, eqb, ltb, inl, inr, Some, None, refl, sym, ap, subst, ◌∙◌, arith, w64, eqb-true, ltb-true, ltb-false, ne_eqb}
use Rattle.gh_central.proofs.Vocabulary.{after_wait, alloc_word, Arena, BeingFreed, bit_at, bit_at-trailing_zeros, bit_at-zero, Body, body_page, Cell, cell_of, ClearBelow, Comes, EachFactLasts, EachFreeingFollows, EachOwnMoveLeaves, eqb-false, eqb_tells, Facts, free_from, FreeBody, freed_to, freed_yet, FreeHead, Freeing, freeing_at, FreesFrom, FreesPage, Good, InRange, IsEmpty, IsIdleSpan, IsInUse, IsReadyToFree, IsSpan, KeepsObjects, Layout, Leaves, MayFree, mod-eq_of_lt, moved, Others, PackedWordsAreReadBack, page_of, PageWord, put, Quiet, Reclaiming, Reclaims, ReclaimStage, Right, Rights, row_bit, Shared, SpanHead, Steps, Sweep, sweep_at, TheHeapIsApart, TidyBefore, trailing_zeros, unswept, View, view, Wait, WaitsFor, WalksGoOn}
use Rattle.gh_central.specs.declared.reclaim.ReclaimStage.TheVariants.{Look, Bits, Head, Ended}
use Rattle.gh_central.specs.Reclaim.{after_page, asks, asks_at, at_stage, given, given_at, goes, goes_at, look_from}
use Rattle.gh_central.specs.ReclaimFacts.{FactsAt, IsUnowned, Lasts, LooksAt, LooksInto, Opens, OwnStep, Within}
use Rattle.gh_central.proofs.Heads.{past-page, past-span}
use Rattle.gh_central.proofs.Sweeping.Steps as steps
use Rattle.gh_sweep.specs.Listing as sweep

pub record Known : Type 0 where
  pub packed : PackedWordsAreReadBack
  pub last : EachFactLasts
  pub walks : WalksGoOn
  pub freeing : EachFreeingFollows
  pub leave : EachOwnMoveLeaves
  pub apart : TheHeapIsApart

pub opens : Opens
opens z v m whose stage = record {
  whose = whose;
  stage = subst (λ (q : ReclaimStage). FactsAt z v q) (sym stage) (record { there = omega (arith, z.layout.limits.pages_fit.0); tidy = λ q h lt. absurd (omega arith) });
}

-- What is known lasts.

module _ (k : Known) (z : Arena) (a : ℕ) (v w : View) (g : Good z v) (o : Others z a v w) (l : v.locked a ≡ true) where
  -- no object is placed in a span that nobody owns
  clear-lasts : (p i : ℕ) (h : SpanHead) → v.freeing a ≡ None → page_of (v.page p) ≡ PageWord.Head h → h.owner ≡ 0 → i ≤ 16 * h.pages → ClearBelow v.alloc p i → ClearBelow w.alloc p i
  clear-lasts p i h none head owner few clear x low high = o.clear p x h ((k.apart z v g).locked a p h l none head) owner low (omega (arith, few, high)) (clear x low high)

  vacant-lasts : (p count : ℕ) → v.freeing a ≡ None → IsReadyToFree v p count → IsReadyToFree w p count
  vacant-lasts p count none x = record {
    being = (k.last z a v w o).freed (freed_to p count 1) l x.being x.swept;
    swept =
        let c = (k.last z a v w o).freed (freed_to p count 1) l x.being x.swept in
        let one : c.h ≡ x.being.h = cc (c.head, (k.last z a v w o).idle p x.being.h l x.being.owner x.swept x.being.head) in
        ap (λ (h : SpanHead). h.number) one ∙ x.swept ∙ sym o.generation;
    empty = λ y low high. clear-lasts p (16 * count) x.being.h none x.being.head x.being.owner (omega (arith, x.being.size)) (λ j lj hj. x.empty j lj (omega (arith, hj))) y low (omega (arith, high));
  }

  frees-last : (p count d : ℕ) → v.freeing a ≡ freed_yet (freed_to p count d) → FreesFrom z v p count d → FreesFrom z w p count d
  frees-last p count d right x = record {
    tidy = (k.last z a v w o).tidy_before p l x.tidy;
    there = x.there;
    some = x.some;
    few = x.few;
    vacant = λ e. vacant-lasts p count (right ∙ ap (λ (n : ℕ). freed_yet (freed_to p count n)) e) (x.vacant e);
  }

  waits-last : (p : ℕ) → WaitsFor z v p → WaitsFor z w p
  waits-last p x = record { there = x.there; tidy = (k.last z a v w o).tidy_before p l x.tidy; unowned = steps.unowned_lasts z a v w (k.last z a v w o) l p x.unowned }

  stage-lasts : (q : ReclaimStage) → v.freeing a ≡ freeing_at q → FactsAt z v q → FactsAt z w q
  stage-lasts (Look p) right x = record { there = x.there; tidy = (k.last z a v w o).tidy_before p l x.tidy }
  stage-lasts (Sweep p count sw) right x = record { waits = waits-last p x.waits; page_is = x.page_is; size = x.size; fits = x.fits; number = x.number ∙ sym o.generation; busy = x.busy }
  stage-lasts (Wait p) right x = waits-last p x
  stage-lasts (Bits p count i) right x = record {
    idle = record { h = x.idle.h; head = (k.last z a v w o).idle p x.idle.h l x.idle.owner x.idle.number x.idle.head; owner = x.idle.owner; size = x.idle.size; number = x.idle.number ∙ sym o.generation };
    tidy = (k.last z a v w o).tidy_before p l x.tidy;
    within = x.within;
    clear = clear-lasts p i x.idle.h right x.idle.head x.idle.owner (omega (arith, x.within, x.idle.size)) x.clear;
  }
  stage-lasts (Body p count d) right x = (frees-last p count d right x.0, x.1)
  stage-lasts (Head p count) right x = frees-last p count count right x
  stage-lasts Ended right x = x

pub lasts : Known → Lasts
lasts k z a v w held m g o right x = record { whose = x.whose ∙ sym o.generation; stage = stage-lasts k z a v w g o right.locked m.stage right.freeing x.stage }

-- The own steps.

module _ (k : Known) (z : Arena) (a : ℕ) (s : Shared) (held : ℕ → Bool) (m : Reclaiming) where
  abbrev now : View
  now = view s

  -- what the next stage has, with nothing that was changed
  abbrev Goes : ReclaimStage → Type 0
  Goes q = Comes z a now now held (given_at q) (at_stage m q)

  stays : Good z now → Leaves now now
  stays g = (k.leave z a s g).stays

  -- it looks from this page on, or has ended
  looks : (w : View) (p : ℕ) → Leaves now w → Right a w true held None → Reclaims w m → TidyBefore w.page w.alloc w.generation p → (b : Bool) → ltb p z.layout.pages ≡ b →
      Comes z a now w held (given_at (cond b (Look p) Ended)) (at_stage m (cond b (Look p) Ended))
  looks w p leaves right whose tidy true t = (leaves, right, record { whose = whose; stage = record { there = ltb-true p z.layout.pages t; tidy = tidy } })
  looks w p leaves right whose tidy false t = (leaves, right, λ q h lt. tidy q h (omega (arith, lt, ltb-false p z.layout.pages t)))

  -- what holds of a head that is gone past
  abbrev IsDone : ℕ → SpanHead → Type 0
  IsDone q h = h.owner ≡ 0 → (h.number ≡ now.generation) × IsInUse now.alloc q h

  whole : Good z now → Right a now true held None → (p : ℕ) (h : SpanHead) → page_of (now.page p) ≡ PageWord.Head h → IsSpan z.layout.pages now.page p h
  whole g right p h = (k.apart z now g).locked a p h right.locked right.freeing

  -- it looks into a swept span that nobody owns
  looks-into : (p : ℕ) (h : SpanHead) → Good z now → Right a now true held None → Reclaims now m → TidyBefore now.page now.alloc now.generation p → page_of (now.page p) ≡ PageWord.Head h → h.owner ≡ 0 → h.number ≡ m.generation → Goes (Bits p h.pages 0)
  looks-into p h g right whose tidy head owner number = (
    stays g,
    right,
    record {
      whose = whose;
      stage = record {
        idle = record { h = h; head = head; owner = owner; size = refl; number = number ∙ whose };
        tidy = tidy;
        within = let some = (g.spans p h head).fits.some in omega arith;
        clear = λ y low high. absurd (omega arith);
      };
    },
  )

  look : (p : ℕ) → Good z now → Right a now true held None → Reclaims now m → LooksAt z now p → Goes (goes_at z.layout m (Look p) (now.page p))
  look p g right whose x = go (page_of (now.page p)) refl where
    owned : (h : SpanHead) → eqb h.owner 0 ≡ false → h.owner ≡ 0 → (h.number ≡ now.generation) × IsInUse now.alloc p h
    owned h t none = absurd (eqb-false h.owner 0 t none)

    waits : (h : SpanHead) → page_of (now.page p) ≡ PageWord.Head h → h.owner ≡ 0 → WaitsFor z now p
    waits h head owner = record { there = x.there; tidy = x.tidy; unowned = record { h = h; head = head; owner = owner } }

    on-unswept : (h : SpanHead) → page_of (now.page p) ≡ PageWord.Head h → h.owner ≡ 0 → (b : Bool) → eqb (h.number + 2) m.generation ≡ b → Goes (cond b (Sweep p h.pages (sweep.opening p h)) (Wait p))
    on-unswept h head owner true t = (
      stays g,
      right,
      record {
        whose = whose;
        stage = record { waits = waits h head owner; page_is = refl; size = refl; fits = steps.fits_now z now g p h head owner; number = eqb-true (h.number + 2) m.generation t ∙ whose; busy = refl };
      },
    )
    on-unswept h head owner false t = (stays g, right, record { whose = whose; stage = waits h head owner })

    on-head : (h : SpanHead) → page_of (now.page p) ≡ PageWord.Head h → (b : Bool) → eqb h.owner 0 ≡ b → (c : Bool) → eqb h.number m.generation ≡ c →
        Goes (cond b (cond c (Bits p h.pages 0) (unswept m p h)) (look_from z.layout (p + h.pages)))
    on-head h head true t true u = looks-into p h g right whose x.tidy head (eqb-true h.owner 0 t) (eqb-true h.number m.generation u)
    on-head h head true t false u = on-unswept h head (eqb-true h.owner 0 t) (eqb (h.number + 2) m.generation) refl
    on-head h head false t c u = looks now (p + h.pages) (stays g) right whose (past-span now.page IsDone z.layout.pages p h (whole g right p h head) x.tidy (owned h t)) (ltb (p + h.pages) z.layout.pages) refl

    go : (w : PageWord) → page_of (now.page p) ≡ w → Goes (after_page z.layout m p w)
    go PageWord.Free e = looks now (p + 1) (stays g) right whose (past-page now.page IsDone p x.tidy (λ h f. absurd (cc (e, f)))) (ltb (p + 1) z.layout.pages) refl
    go (PageWord.Body b) e = looks now (p + 1) (stays g) right whose (past-page now.page IsDone p x.tidy (λ h f. absurd (cc (e, f)))) (ltb (p + 1) z.layout.pages) refl
    go (PageWord.Head h) e = on-head h e (eqb h.owner 0) refl (eqb h.number m.generation) refl

  -- a span that is waited for
  wait : (p : ℕ) → Good z now → Right a now true held None → Reclaims now m → WaitsFor z now p → Goes (goes_at z.layout m (Wait p) (now.page p))
  wait p g right whose x = go (page_of (now.page p)) refl where
    u : IsUnowned now.page p
    u = x.unowned

    on-head : (h : SpanHead) → page_of (now.page p) ≡ PageWord.Head h → h.owner ≡ 0 → (b : Bool) → eqb h.number m.generation ≡ b → Goes (cond b (Bits p h.pages 0) (Wait p))
    on-head h head owner true t = looks-into p h g right whose x.tidy head owner (eqb-true h.number m.generation t)
    on-head h head owner false t = (stays g, right, record { whose = whose; stage = x })

    go : (w : PageWord) → page_of (now.page p) ≡ w → Goes (after_wait m p w)
    go PageWord.Free e = absurd (cc (e, u.head))
    go (PageWord.Body b) e = absurd (cc (e, u.head))
    go (PageWord.Head h) e =
        let same : u.h ≡ h = cc (e, u.head) in
        on-head h e (ap (λ (y : SpanHead). y.owner) (sym same) ∙ u.owner) (eqb h.number m.generation) refl

  -- An alloc word of a span that is looked into.

  word-is : (p count i : ℕ) → Good z now → Right a now true held None → Reclaims now m → LooksInto now p count i → alloc_word z.layout p i ≡ 16 * p + i
  word-is p count i g right whose x =
      let span = whole g right p x.idle.h x.idle.head in
      mod-eq_of_lt (omega (arith, span.within, x.within, x.idle.size))

  -- it has the bit of an object
  bit-set : (p i : ℕ) → Good z now → now.alloc (16 * p + i) ≢ 0 → (j : ℕ) × (j < 64) × (row_bit now.alloc (64 * (16 * p + i) + j) ≡ 1)
  unfolding row_bit
  bit-set p i g some = let b = bit_at-trailing_zeros w64 (now.alloc (16 * p + i)) (omega (arith, some)) (g.words (16 * p + i)) in
      (trailing_zeros w64 (now.alloc (16 * p + i)), b.0, at (16 * p + i) (trailing_zeros w64 (now.alloc (16 * p + i))) b.0 b.1) where
        at : (n j : ℕ) → j < 64 → bit_at (now.alloc n) j ≡ 1 → bit_at (now.alloc ((64 * n + j) / 64)) ((64 * n + j) % 64) ≡ 1
        at n j lt e = let d : (64 * n + j) / 64 ≡ n = omega (arith, lt) in let r : (64 * n + j) % 64 ≡ j = omega (arith, lt) in rw (d, r) e

  in-use : (p count i : ℕ) → Good z now → Right a now true held None → (x : LooksInto now p count i) → now.alloc (16 * p + i) ≢ 0 → IsInUse now.alloc p x.idle.h
  in-use p count i g right x some =
      let b = bit-set p i g some in
      (k.apart z now g).used p (64 * (16 * p + i) + b.0) x.idle.h (whole g right p x.idle.h x.idle.head) (omega arith) (omega (arith, b.1, x.within, x.idle.size)) b.2

  -- all of it is clear
  more-clear : (p i : ℕ) → now.alloc (16 * p + i) ≡ 0 → ClearBelow now.alloc p i → ClearBelow now.alloc p (i + 1)
  unfolding row_bit
  more-clear p i zero clear x low high = elim (eqb_tells (x / 64) (16 * p + i)) [
    | inl y ↦ rw (y.1, zero) (none (x % 64))
    | inr n ↦ clear x low (omega (arith, n.1, low, high))
  ] where
    none : (j : ℕ) → bit_at 0 j ≡ 0
    none j = bit_at-zero j

  is-vacant : (p count : ℕ) → Good z now → Right a now true held None → (x : IsIdleSpan now.page now.generation p count) → 1 ≤ count → IsEmpty now.alloc p count → IsReadyToFree now p count
  is-vacant p count g right x some empty =
      let span = whole g right p x.h x.head in
      record {
        being = record {
          h = x.h;
          head = x.head;
          owner = x.owner;
          size = x.size;
          some = omega arith;
          few = some;
          freed = λ d low high. absurd (omega arith);
          standing = λ d low high. span.body d (omega arith) (omega (arith, x.size, high));
        };
        swept = x.number;
        empty = empty;
      }

  -- which page is freed first
  first : (p count : ℕ) → Good z now → Right a now true held None → Reclaims now m → IsIdleSpan now.page now.generation p count → TidyBefore now.page now.alloc now.generation p → IsEmpty now.alloc p count → (b : Bool) → ltb 1 count ≡ b →
      Goes (cond b (Body p count 1) (Head p count))
  first p count g right whose x tidy empty b t = go b t where
    span : IsSpan z.layout.pages now.page p x.h
    span = whole g right p x.h x.head

    some : 1 ≤ count
    some = omega (arith, span.fits.some, x.size)

    frees : (d : ℕ) → 0 < d → d ≤ count → FreesFrom z now p count d
    frees d low few = record { tidy = tidy; there = omega (arith, span.within, x.size); some = low; few = few; vacant = λ e. is-vacant p count g right x some empty }

    go : (b : Bool) → ltb 1 count ≡ b → Goes (cond b (Body p count 1) (Head p count))
    go true t = (stays g, right, record { whose = whose; stage = (frees 1 (omega arith) some, ltb-true 1 count t) })
    go false t =
        let one : count ≡ 1 = omega (arith, some, ltb-false 1 count t) in
        (stays g, subst (λ (n : ℕ). Rights a now true held None (freed_yet (freed_to p count n))) (sym one) right, record { whose = whose; stage = frees count some (omega arith) })

  bits-step : (p count i found : ℕ) → found ≡ now.alloc (16 * p + i) → Good z now → Right a now true held None → Reclaims now m → LooksInto now p count i → Goes (goes_at z.layout m (Bits p count i) found)
  bits-step p count i found is g right whose x = go (eqb found 0) refl where
    clear : eqb found 0 ≡ true → ClearBelow now.alloc p (i + 1)
    clear t = more-clear p i (sym is ∙ eqb-true found 0 t) x.clear

    more : eqb found 0 ≡ true → (b : Bool) → ltb (i + 1) (16 * count) ≡ b → Goes (cond b (Bits p count (i + 1)) (free_from p count 1))
    more t true u = (stays g, right, record { whose = whose; stage = record { idle = x.idle; tidy = x.tidy; within = ltb-true (i + 1) (16 * count) u; clear = clear t } })
    more t false u = let all = ltb-false (i + 1) (16 * count) u in first p count g right whose x.idle x.tidy (λ y low high. clear t y low (omega (arith, high, all))) (ltb 1 count) refl

    past : eqb found 0 ≡ false → TidyBefore now.page now.alloc now.generation (p + count)
    past t = subst (λ (n : ℕ). TidyBefore now.page now.alloc now.generation (p + n)) x.idle.size
        (past-span now.page IsDone z.layout.pages p x.idle.h (whole g right p x.idle.h x.idle.head) x.tidy (λ none. (x.idle.number, in-use p count i g right x (λ e. eqb-false found 0 t (is ∙ e)))))

    go : (b : Bool) → eqb found 0 ≡ b → Goes (cond b (cond (ltb (i + 1) (16 * count)) (Bits p count (i + 1)) (free_from p count 1)) (look_from z.layout (p + count)))
    go true t = more t (ltb (i + 1) (16 * count)) refl
    go false t = looks now (p + count) (stays g) right whose (past t) (ltb (p + count) z.layout.pages) refl

  -- The stores.

  -- what stands of the span: before its first store by the facts, and then by the right
  ready : (p count d : ℕ) → Good z now → Rights a now true held None (freed_yet (freed_to p count d)) → FreesFrom z now p count d → (b : BeingFreed now.page (freed_to p count d)) × IsEmpty now.alloc p count × (b.h.number ≡ now.generation)
  ready p count d g right x = go (eqb d 1) refl right.freeing where
    go : (b : Bool) → eqb d 1 ≡ b → now.freeing a ≡ cond b None (Some (freed_to p count d)) → (b : BeingFreed now.page (freed_to p count d)) × IsEmpty now.alloc p count × (b.h.number ≡ now.generation)
    go true t e =
        let one : d ≡ 1 = eqb-true d 1 t in
        let v = x.vacant one in
        subst (λ (n : ℕ). (b : BeingFreed now.page (freed_to p count n)) × IsEmpty now.alloc p count × (b.h.number ≡ now.generation)) (sym one) (v.being, v.empty, v.swept)
    go false t e = let f = g.freeing a (freed_to p count d) e in (f.being, f.empty, (g.numbers p f.being.h f.being.head).freed a (freed_to p count d) e refl)

  may-free : (p count d : ℕ) → Good z now → Rights a now true held None (freed_yet (freed_to p count d)) → FreesFrom z now p count d → MayFree now a (freed_to p count d)
  may-free p count d g right x =
      let r = ready p count d g right x in
      record { locked = right.locked; laying = right.laying; freeing = right.freeing; being = r.0; swept = r.2; empty = r.1 }

  body : (p count d : ℕ) → Good z now → Rights a now true held None (freed_yet (freed_to p count d)) → Reclaims now m → FreesFrom z now p count d → d < count →
      Steps z a s (asks z.layout (at_stage m (Body p count d))) (λ t. KeepsObjects now (view t) × Comes z a now (view t) held (given_at (free_from p count (d + 1))) (at_stage m (free_from p count (d + 1))))
  body p count d g right whose x more = record {
    move = FreeBody y;
    may = (may-free p count d g right x, more);
    words_are = ap (λ (i : ℕ). put s.words (Cell.Page i) 0) (sym page-is);
    after = ((refl, refl), go (ltb (d + 1) count) refl);
  } where
    y : Freeing
    y = freed_to p count d

    page-is : body_page z.layout p d ≡ p + d
    page-is = mod-eq_of_lt (omega (arith, x.there, more))

    t : Shared
    t = moved z a s (FreeBody y)

    leaves : Leaves now (view t)
    leaves = (k.leave z a s g).freed y

    right-then : (n : ℕ) → n ≡ d + 1 → Rights a (view t) true held None (freed_yet (freed_to p count n))
    right-then n e = rw (e, test) ((k.freeing z a s true held None (freed_yet y) right).body y) where
      test : eqb (d + 1) 1 ≡ false
      test = ne_eqb (d + 1) 1 (λ q. omega (arith, x.some, q))

    frees : (n : ℕ) → n ≡ d + 1 → FreesFrom z (view t) p count n
    frees n e = record { tidy = k.walks.tidy now (view t) p leaves x.tidy; there = x.there; some = omega (arith, e); few = omega (arith, e, more); vacant = λ q. absurd (omega (arith, q, e, x.some)) }

    go : (b : Bool) → ltb (d + 1) count ≡ b → Comes z a now (view t) held (given_at (cond b (Body p count (d + 1)) (Head p count))) (at_stage m (cond b (Body p count (d + 1)) (Head p count)))
    go true u = (leaves, right-then (d + 1) refl, record { whose = whose; stage = (frees (d + 1) refl, ltb-true (d + 1) count u) })
    go false u =
        let all : count ≡ d + 1 = omega (arith, more, ltb-false (d + 1) count u) in
        (leaves, right-then count all, record { whose = whose; stage = frees count all })

  head : (p count : ℕ) → Good z now → Rights a now true held None (freed_yet (freed_to p count count)) → Reclaims now m → FreesFrom z now p count count →
      Steps z a s (asks z.layout (at_stage m (Head p count))) (λ t. KeepsObjects now (view t) × Comes z a now (view t) held (given_at (look_from z.layout (p + count))) (at_stage m (look_from z.layout (p + count))))
  head p count g right whose x = record {
    move = FreeHead y;
    may = (may-free p count count g right x, refl);
    words_are = refl;
    after = ((refl, refl), looks (view t) (p + count) leaves ((k.freeing z a s true held None (freed_yet y) right).head y) (whose) tidy (ltb (p + count) z.layout.pages) refl);
  } where
    y : Freeing
    y = freed_to p count count

    t : Shared
    t = moved z a s (FreeHead y)

    leaves : Leaves now (view t)
    leaves = (k.leave z a s g).emptied y

    being : BeingFreed now.page y
    being = (ready p count count g right x).0

    no-head : (w : ℕ) (h : SpanHead) → page_of w ≡ PageWord.Free → page_of w ≡ PageWord.Head h → ⊥
    no-head w h e f = cc

    -- all of its pages are free
    free : (q : ℕ) → p ≤ q → q < p + count → page_of ((view t).page q) ≡ PageWord.Free
    free q low high = elim (eqb_tells p q) [
      | inl e ↦ ap (λ (b : Bool). page_of (cond b 0 (now.page q))) e.0
      | inr n ↦
          let at : q ≡ p + (q - p) = omega (arith, low) in
          ap (λ (b : Bool). page_of (cond b 0 (now.page q))) n.0 ∙ ap (λ (i : ℕ). page_of (now.page i)) at ∙ being.freed (q - p) (omega (arith, low, n.1)) (omega (arith, high))
    ]

    tidy : TidyBefore (view t).page (view t).alloc (view t).generation (p + count)
    tidy q h lt e none = by (ltb q p) refl where
      by : (b : Bool) → ltb q p ≡ b → (h.number ≡ (view t).generation) × IsInUse (view t).alloc q h
      by true u = k.walks.tidy now (view t) p leaves x.tidy q h (ltb-true q p u) e none
      by false u = absurd (no-head ((view t).page q) h (free q (ltb-false q p u) lt) e)

  own-at : (q : ReclaimStage) → Good z now → Rights a now true held None (freeing_at q) → Facts z now (at_stage m q) → sweep_at q ≡ None →
      Steps z a s (asks z.layout (at_stage m q)) (λ t. KeepsObjects now (view t) × Comes z a now (view t) held (given (goes z.layout (at_stage m q) (s.words (cell_of (asks z.layout (at_stage m q)))))) (goes z.layout (at_stage m q) (s.words (cell_of (asks z.layout (at_stage m q))))))
  own-at (Look p) g right x none = record { move = Quiet (asks z.layout (at_stage m (Look p))); may = tt; words_are = refl; after = ((refl, refl), look p g right (x.whose) x.stage) }
  own-at (Sweep p count sw) g right x none = absurd (cc)
  own-at (Wait p) g right x none = record { move = Quiet (asks z.layout (at_stage m (Wait p))); may = tt; words_are = refl; after = ((refl, refl), wait p g right (x.whose) x.stage) }
  own-at (Bits p count i) g right x none =
      let whose : Reclaims now m = x.whose in
      record { move = Quiet (asks z.layout (at_stage m (Bits p count i))); may = tt; words_are = refl; after = ((refl, refl), bits-step p count i (s.words (Cell.Alloc (alloc_word z.layout p i))) (ap (λ (n : ℕ). now.alloc n) (word-is p count i g right whose x.stage)) g right whose x.stage) }
  own-at (Body p count d) g right x none = body p count d g right (x.whose) x.stage.0 x.stage.1
  own-at (Head p count) g right x none = head p count g right (x.whose) x.stage
  own-at Ended g right x none = absurd x.stage

pub own : Known → OwnStep
own k z a s held m g right x none = own-at k z a s held m m.stage g right x none

-- Its words.

within-at : (z : Arena) (v : View) (q : ReclaimStage) → FactsAt z v q → InRange z.layout (cell_of (asks_at z.layout q))
within-at z v q x = grind arith

pub within : Within
within z v m g x = within-at z v m.stage x.stage

pub frees-at : (l : Layout) (q : ReclaimStage) → sweep_at q ≡ None → FreesPage (asks_at l q)
frees-at l q none = grind arith
