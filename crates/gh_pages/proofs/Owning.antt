-- Its own steps are moves that its rights allow, and what it knows lasts. Of the heap it is known what the laws of gh_heap say.
use Rattle.std.proofs.Common.{◌≡◌, ◌≢◌, ℕ, ◌+◌, ◌-◌, ◌<◌, ◌≤◌, Bool, true, false, not, cond, eqb, ltb, inl, inr, Option, Some, None, refl, sym, ap, subst, ◌∙◌, arith}
use Rattle.std.proofs.lemmas.Bool.{eqb-true, eqb-false, eq-eqb, ltb-true, ltb-false}
use Rattle.gh_pages.proofs.Vocabulary.{after_look, asks, asks_at, at_stage, Body, CarveStage, Carving, Ended, eqb_tells, first_store, fresh_body, fresh_head, given, given_at, goes, goes_at, Head, head_word, is_free, is_last_page, Look, nat_tests, next_store, PackedWordsAreReadBack, page_of}
use Rattle.gh_base.specs.declared.pack.PageWord.{PageWord}
use Rattle.gh_base.specs.Cells.{InRange}
use Rattle.gh_base.specs.Rows.{Row}
use Rattle.gh_base.specs.Steps.{cell_of}
use Rattle.gh_heap.specs.Laws.{EachFactLasts, EachMoveKeeps, EachOwnMoveLeaves, EachRightFollows, TheHeapIsApart}
use Rattle.gh_heap.specs.Moves.{KeepsObjects, LayBody, LayHead, Leaves, MayLay, Others, Quiet, Steps, laid_so_far, moved, update}
use Rattle.gh_heap.specs.Rights.{Arena, Good, Right, Shared, View, view}
use Rattle.gh_heap.specs.Spans.{IsSpan, LaidOut, Laying, owner_at, owner_in}
use Rattle.gh_pages.specs.Facts.{Carves, CarvesByItsRights, Comes, Facts, FactsAt, FreeBefore, IsPageOf, Lasts, LaysPage, Looks, NoRun, NoRunBefore, Opens, OwnStep, Within, fresh_from, laying_at}

pub record Known : Type 0 where
  pub packed : PackedWordsAreReadBack
  pub keep : EachMoveKeeps
  pub last : EachFactLasts
  pub follow : EachRightFollows
  pub leave : EachOwnMoveLeaves
  pub apart : TheHeapIsApart

not-same : (m n : ℕ) → m ≢ n → eqb m n ≡ false
not-same m n e = grind (arith, nat_tests)

put-here : (p v w : ℕ) → cond (eqb p p) v w ≡ v
put-here p v w = grind (arith, nat_tests)

-- what nobody owns the seat does not hold
not-held : (z : Arena) (a : ℕ) (v : View) (l : Bool) (held : ℕ → Bool) (y : Option Laying) (p : ℕ) → Good z v → Right a v l held y → owner_at v.page p ≡ 0 → held p ≡ false
not-held z a v l held y p g right none = grind arith

-- it is the same routine at another stage
whose-at : (z : Arena) (a : ℕ) (v : View) (c : Carving) (q : CarveStage) → Carves z a v c → Carves z a v (at_stage c q)
whose-at z a v c q h = record { seat = h.seat; number = h.number; class = h.class; word = h.word }

whose-of : (z : Arena) (a : ℕ) (v : View) (c : Carving) (q : CarveStage) → Carves z a v (at_stage c q) → Carves z a v c
whose-of z a v c q h = record { seat = h.seat; number = h.number; class = h.class; word = h.word }

-- The opening.

pub opens : Opens
opens z a v c whose stage = record {
  whose = whose;
  stage = subst (λ (q : CarveStage). FactsAt z c v.page q) (sym stage) (record {
    there = omega (arith, z.layout.limits.pages_fit.0);
    few = whose.class.some;
    before = record { fits = omega arith; free = λ q high low. absurd (omega arith) };
    no_run = record { none = λ first le. none first le whose.class.some; ends = λ lt. absurd (omega arith) };
  });
} where
  none : (first : ℕ) → first + c.span.pages ≤ 0 → 1 ≤ c.span.pages → (d : ℕ) × (d < c.span.pages) × (page_of (v.page (first + d)) ≢ PageWord.Free)
  none first le some = absurd (omega arith)

-- What is known lasts.

looks-last : (k : Known) (z : Arena) (a : ℕ) (v w : View) (need p run : ℕ) → Others z a v w → v.locked a ≡ true → Looks z v.page need p run → Looks z w.page need p run
looks-last k z a v w need p run o l h = let last = k.last z a v w o in record {
  there = h.there;
  few = h.few;
  before = record { fits = h.before.fits; free = λ q high low. last.free q l (h.before.free q high low) };
  no_run = record {
    none = λ first le. let x = h.no_run.none first le in (x.0, x.1, last.taken (first + x.0) l x.2);
    ends = λ lt. last.taken (p - run - 1) l (h.no_run.ends lt);
  };
}

whose-last : (z : Arena) (a : ℕ) (v w : View) (c : Carving) → Others z a v w → Carves z a v c → Carves z a w c
whose-last z a v w c o h = record { seat = h.seat; number = h.number ∙ sym o.generation; class = h.class; word = h.word }

stage-lasts : (k : Known) (z : Arena) (a : ℕ) (v w : View) (c : Carving) (q : CarveStage) → Others z a v w → v.locked a ≡ true → FactsAt z c v.page q → FactsAt z c w.page q
stage-lasts k z a v w c (Look p run) o l h = looks-last k z a v w c.span.pages p run o l h
stage-lasts k z a v w c (Body first d) o l h = ((k.last z a v w o).laid (fresh_from c first d) l h.0, h.1)
stage-lasts k z a v w c (Head first) o l h = (k.last z a v w o).laid (fresh_from c first c.span.pages) l h
stage-lasts k z a v w c (Ended taken) o l h = h

pub lasts : Known → Lasts
lasts k z a v w c o l h = record { whose = whose-last z a v w c o h.whose; stage = stage-lasts k z a v w c c.stage o l h.stage }

-- The walk.

free-is : (w : PageWord) → is_free w ≡ true → w ≡ PageWord.Free
free-is w e = grind arith

taken-is : (w : PageWord) → is_free w ≡ false → w ≢ PageWord.Free
taken-is PageWord.Free e f = cc
taken-is (PageWord.Head h) e f = cc
taken-is (PageWord.Body b) e f = cc

-- the page at p is free
free-more : (row : Row) (p run : ℕ) → FreeBefore row p run → page_of (row p) ≡ PageWord.Free → FreeBefore row (p + 1) (run + 1)
free-more row p run h e = record {
  fits = omega (arith, h.fits);
  free = λ q high low. elim (eqb_tells q p) [ inl y ↦ subst (λ (x : ℕ). page_of (row x) ≡ PageWord.Free) (sym y.1) e | inr n ↦ h.free q (omega arith) (omega (arith, n.1)) ];
}

none-more : (row : Row) (need p run : ℕ) → run + 1 < need → NoRunBefore row need p run → NoRunBefore row need (p + 1) (run + 1)
none-more row need p run few h = record {
  none = λ first le. none first le;
  ends = λ lt. subst (λ (x : ℕ). page_of (row x) ≢ PageWord.Free) (omega arith) (h.ends (omega arith));
} where
  none : (first : ℕ) → first + need ≤ p + 1 → (d : ℕ) × (d < need) × (page_of (row (first + d)) ≢ PageWord.Free)
  none first le = elim (eqb_tells (first + need) (p + 1)) [
    | inl y ↦ (p - run - 1 - first, omega arith, subst (λ (x : ℕ). page_of (row x) ≢ PageWord.Free) (omega arith) (h.ends (omega (arith, y.1))))
    | inr n ↦ h.none first (omega (arith, n.1))
  ]

-- it is not
none-past : (row : Row) (need p : ℕ) → 1 ≤ need → NoRun row need p → page_of (row p) ≢ PageWord.Free → NoRunBefore row need (p + 1) 0
none-past row need p some h e = record {
  none = λ first le. none first le;
  ends = λ lt. subst (λ (x : ℕ). page_of (row x) ≢ PageWord.Free) (omega arith) e;
} where
  none : (first : ℕ) → first + need ≤ p + 1 → (d : ℕ) × (d < need) × (page_of (row (first + d)) ≢ PageWord.Free)
  none first le = elim (eqb_tells (first + need) (p + 1)) [
    | inl y ↦ (need - 1, omega arith, subst (λ (x : ℕ). page_of (row x) ≢ PageWord.Free) (omega (arith, y.1)) e)
    | inr n ↦ h first (omega (arith, n.1))
  ]

-- The stores begin at a run that is long enough.

module _ (k : Known) (z : Arena) (a : ℕ) (s : Shared) (held : ℕ → Bool) (c : Carving) where
  abbrev now : View
  now = view s

  -- what the next stage has, with nothing that was changed
  abbrev Goes : CarveStage → Type 0
  Goes q = Comes z a now now held (given_at q) (at_stage c q)

  stays : Good z now → Leaves now now
  stays g = (k.leave z a s g).stays

  -- nothing is laid out before the first page is written
  first-laid : (first : ℕ) → first + c.span.pages ≤ z.layout.pages → 1 ≤ c.span.pages → ((d : ℕ) → d < c.span.pages → page_of (now.page (first + d)) ≡ PageWord.Free) → LaidOut z.layout.pages now.page (fresh_from c first 1)
  first-laid first fits some free = record {
    within = fits;
    some = omega arith;
    few = some;
    head = subst (λ (x : ℕ). page_of (now.page x) ≡ PageWord.Free) (omega arith) (free 0 (omega arith));
    written = λ d low high. absurd (omega arith);
    free = λ d low high. free d high;
  }

  begins : (first : ℕ) → Good z now → Right a now true held None → Carves z a now c → LaidOut z.layout.pages now.page (fresh_from c first 1) → Goes (first_store c.span first)
  begins first g right whose laid = go (ltb (0 + 1) c.span.pages) refl where
    go : (b : Bool) → ltb (0 + 1) c.span.pages ≡ b → Goes (cond b (Body first (0 + 1)) (Head first))
    go true e = (stays g, right, record { whose = whose-at z a now c (Body first (0 + 1)) whose; stage = (laid, ltb-true 1 c.span.pages e) })
    go false e =
        let one : c.span.pages ≡ 1 = omega (arith, laid.few, ltb-false 1 c.span.pages e) in
        (stays g, subst (λ (n : ℕ). Right a now true held (laid_so_far (fresh_from c first n))) (sym one) right, record { whose = whose-at z a now c (Head first) whose; stage = subst (λ (n : ℕ). LaidOut z.layout.pages now.page (fresh_from c first n)) (sym one) laid })

  -- after a look at page p, with so many free pages in a row up to it
  looked : (p row : ℕ) → Good z now → Right a now true held None → Carves z a now c → p < z.layout.pages → row ≤ c.span.pages → FreeBefore now.page (p + 1) row → (row < c.span.pages → NoRunBefore now.page c.span.pages (p + 1) row) →
      Goes (after_look z.layout c p row)
  looked p row g right whose there few free none = go (eqb row c.span.pages) refl where
    begun-at : row ≡ c.span.pages → LaidOut z.layout.pages now.page (fresh_from c (p + 1 - c.span.pages) 1)
    begun-at e = first-laid (p + 1 - c.span.pages) (omega (arith, free.fits)) whose.class.some (λ d low. free.free (p + 1 - c.span.pages + d) (omega (arith, free.fits)) (omega (arith, free.fits)))

    ends : row ≢ c.span.pages → (b : Bool) → ltb (p + 1) z.layout.pages ≡ b → Goes (cond (not b) (Ended None) (Look (p + 1) row))
    ends ne true e = (stays g, right, record { whose = whose-at z a now c (Look (p + 1) row) whose; stage = record { there = ltb-true (p + 1) z.layout.pages e; few = omega arith; before = free; no_run = none (omega arith) } })
    ends ne false e =
        let all : p + 1 ≡ z.layout.pages = omega (arith, there, ltb-false (p + 1) z.layout.pages e) in
        (stays g, right, subst (λ (n : ℕ). NoRun now.page c.span.pages n) all (none (omega arith)).none)

    go : (b : Bool) → eqb row c.span.pages ≡ b → Goes (cond b (first_store c.span (p + 1 - c.span.pages)) (cond (is_last_page z.layout p) (Ended None) (Look (p + 1) row)))
    go true e = begins (p + 1 - c.span.pages) g right whose (begun-at (eqb-true row c.span.pages e))
    go false e = ends (eqb-false row c.span.pages e) (ltb (p + 1) z.layout.pages) refl

  look : (p run : ℕ) → Good z now → Right a now true held None → Carves z a now c → Looks z now.page c.span.pages p run → Goes (goes_at z.layout c (Look p run) (now.page p))
  look p run g right whose h = go (is_free (page_of (now.page p))) refl where
    go : (b : Bool) → is_free (page_of (now.page p)) ≡ b → Goes (after_look z.layout c p (cond b (run + 1) 0))
    go true e = looked p (run + 1) g right whose h.there (omega (arith, h.few)) (free-more now.page p run h.before (free-is (page_of (now.page p)) e)) (λ few. none-more now.page c.span.pages p run few h.no_run)
    go false e = looked p 0 g right whose h.there (omega arith) (record { fits = omega arith; free = λ q high low. absurd (omega arith) }) (λ few. none-past now.page c.span.pages p whose.class.some h.no_run.none (taken-is (page_of (now.page p)) e))

  -- The stores.

  may-lay : (first d : ℕ) → Right a now true held (laid_so_far (fresh_from c first d)) → Carves z a now c → LaidOut z.layout.pages now.page (fresh_from c first d) → MayLay z now a (fresh_from c first d)
  may-lay first d right whose laid = record { locked = right.locked; laying = right.laying; freeing = right.freeing; laid = laid; fits = whose.class; word = whose.word; owner = ap (λ (x : ℕ). x + 1) whose.seat; number = whose.number }

  body : (first d : ℕ) → Good z now → Right a now true held (laid_so_far (fresh_from c first d)) → Carves z a now c → LaidOut z.layout.pages now.page (fresh_from c first d) → d < c.span.pages →
      Steps z a s (asks (at_stage c (Body first d))) (λ t. KeepsObjects now (view t) × Comes z a now (view t) held (given_at (next_store c.span first d)) (at_stage c (next_store c.span first d)))
  body first d g right whose laid more = record { move = LayBody y; may = may; words_are = refl; after = ((refl, refl), go (ltb (d + 1) c.span.pages) refl) } where
    y : Laying
    y = fresh_from c first d

    may : MayLay z now a y × (d < c.span.pages)
    may = (may-lay first d right whose laid, more)

    t : Shared
    t = moved z a s (LayBody y)

    after : Right a (view t) true held (Some (fresh_from c first (d + 1)))
    after = (k.follow z a s true held (laid_so_far y) right).body y

    whose-then : Carves z a (view t) c
    whose-then = record { seat = whose.seat; number = whose.number; class = whose.class; word = whose.word }

    laid-then : LaidOut z.layout.pages (view t).page (fresh_from c first (d + 1))
    laid-then = ((k.keep z a s (LayBody y) g may).laying a (fresh_from c first (d + 1)) after.laying).laid

    leaves : Leaves now (view t)
    leaves = (k.leave z a s g).body y may

    begun-then : (n : ℕ) → n ≡ d + 1 → Right a (view t) true held (laid_so_far (fresh_from c first n))
    begun-then n e = rw (e, test) after where
      test : eqb (d + 1) 1 ≡ false
      test = not-same (d + 1) 1 (λ x. omega (arith, laid.some))

    go : (b : Bool) → ltb (d + 1) c.span.pages ≡ b → Comes z a now (view t) held (given_at (cond b (Body first (d + 1)) (Head first))) (at_stage c (cond b (Body first (d + 1)) (Head first)))
    go true e = (leaves, begun-then (d + 1) refl, record { whose = whose-at z a (view t) c (Body first (d + 1)) whose-then; stage = (laid-then, ltb-true (d + 1) c.span.pages e) })
    go false e =
        let all : c.span.pages ≡ d + 1 = omega (arith, more, ltb-false (d + 1) c.span.pages e) in
        (leaves, begun-then c.span.pages all, record { whose = whose-at z a (view t) c (Head first) whose-then; stage = subst (λ (n : ℕ). LaidOut z.layout.pages (view t).page (fresh_from c first n)) (sym all) laid-then })

  head : (first : ℕ) → Good z now → Right a now true held (laid_so_far (fresh_from c first c.span.pages)) → Carves z a now c → LaidOut z.layout.pages now.page (fresh_from c first c.span.pages) →
      Steps z a s (asks (at_stage c (Head first))) (λ t. KeepsObjects now (view t) × Comes z a now (view t) held (Some (Some first)) (at_stage c (Ended (Some first))))
  head first g right whose laid = record { move = LayHead y; may = may; words_are = refl; after = ((refl, refl), (leaves, right-then, record { span = span; empty = λ x low high. (k.apart z now g).laid y x laid low high }, not-held z a now true held (laid_so_far y) first g right (ap owner_in laid.head))) } where
    y : Laying
    y = fresh_from c first c.span.pages

    may : MayLay z now a y × (c.span.pages ≡ c.span.pages)
    may = (may-lay first c.span.pages right whose laid, refl)

    t : Shared
    t = moved z a s (LayHead y)

    right-then : Right a (view t) true (update held first true) None
    right-then = (k.follow z a s true held (laid_so_far y) right).laid y

    leaves : Leaves now (view t)
    leaves = (k.leave z a s g).head y may

    written : (view t).page first ≡ head_word (fresh_head c)
    written = put-here first (head_word (fresh_head c)) (now.page first)

    span : IsSpan z.layout.pages (view t).page first (fresh_head c)
    span = (k.apart z (view t) (k.keep z a s (LayHead y) g may)).held a first (fresh_head c) (right-then.holds first ∙ ap (λ (b : Bool). cond b true (held first)) (eq-eqb first first refl)) (ap page_of written ∙ k.packed.page (PageWord.Head (fresh_head c)) whose.word)

  own-at : (q : CarveStage) → Good z now → Right a now true held (laying_at c q) → Facts z a now (at_stage c q) →
      Steps z a s (asks (at_stage c q)) (λ t. KeepsObjects now (view t) × Comes z a now (view t) held (given (goes z.layout (at_stage c q) (s.words (cell_of (asks (at_stage c q)))))) (goes z.layout (at_stage c q) (s.words (cell_of (asks (at_stage c q))))))
  own-at (Look p run) g right h = record { move = Quiet (asks (at_stage c (Look p run))); may = tt; words_are = refl; after = ((refl, refl), look p run g right (whose-of z a now c (Look p run) h.whose) h.stage) }
  own-at (Body first d) g right h = body first d g right (whose-of z a now c (Body first d) h.whose) h.stage.0 h.stage.1
  own-at (Head first) g right h = head first g right (whose-of z a now c (Head first) h.whose) h.stage
  own-at (Ended taken) g right h = absurd h.stage

pub own : Known → OwnStep
own k z a s held c g right h = own-at k z a s held c c.stage g right h

-- Its words.

within-at : (z : Arena) (c : Carving) (page_words : Row) (q : CarveStage) → FactsAt z c page_words q → InRange z.layout (cell_of (asks (at_stage c q)))
within-at z c page_words q x = grind arith

within : Within
within z a v c x = within-at z c v.page c.stage x.stage

lays-at : Known → (z : Arena) (a : ℕ) (v : View) (c : Carving) (q : CarveStage) → Carves z a v c → FactsAt z c v.page q → LaysPage c.span (asks_at c q)
lays-at k z a v c (Look p run) whose x = tt
lays-at k z a v c (Body first d) whose x =
    let some = x.0.some in
    let few = whose.word.pages in
    subst (IsPageOf c.span) (sym (k.packed.page (PageWord.Body (fresh_body c d)) (record { class = whose.word.class; some = omega (arith, some); distance = omega (arith, x.1, few) }))) (refl, refl, omega (arith, some), x.1)
lays-at k z a v c (Head first) whose x = subst (IsPageOf c.span) (sym (k.packed.page (PageWord.Head (fresh_head c)) whose.word)) (refl, refl, refl)
lays-at k z a v c (Ended taken) whose x = absurd x

pub carves_by_its_rights : Known → CarvesByItsRights
carves_by_its_rights k = record { opens = opens; own_step = own k; within = within; lays = λ z a v c x. lays-at k z a v c c.stage x.whose x.stage; lasts = lasts k }
