-- The search's own steps are moves that its rights allow. Of the heap and of its routines it is known what their laws say.
use Rattle.std.proofs.Common.{◌≡◌, ℕ, ◌+◌, ◌*◌, ◌/◌, ◌<◌, ◌≤◌, Bool, true, false, cond, eqb, ltb, inl, inr, Option, Some, None, refl, sym, ap, subst, ◌∙◌, arith, eqb-true, eq-eqb, ltb-false}
use Rattle.gh_alloc.proofs.Vocabulary.{after_carve, after_pass, after_slots, after_unswept, Again, Arena, Ask, asks, At, begin, behind_for, cached_head, CachedSpan, Caches, Carve, carve_at, CarveStage, Cell, cell_of, Comes, effect, End, Ended, eqb_tells, Facts, FactsAt, Finding, FindsByItsRights, FindStage, first_page, FitsClass, Give, given, given_head, gives, goes, Good, head_for, held, is_locked, IsCached, IsCachedFor, IsSpan, IsUsedUp, KeepsObjects, Lands, Large, laying, LeaveLock, Leaves, Lock, locked_for, looks, LooksAgain, moved, NoneLeft, NoRoom, own, owned_by, owner_at, owner_in, OwnsLarge, OwnStep, pages_of, Pass, pass_at, put, Quiet, refuses_at, Right, searched, Seeks, Shared, SizeClass, Slots, slots_of, SlotStage, Small, Sought, span_at, span_for, SpanClass, SpanHead, spans_for, Steps, still, sweep_at, Sweeping, SweepLeaves, SweepStep, TakeLock, taken_for, Unlock, Unswept, unswept_at, update, View, view, with_span}
use Rattle.gh_cache.specs.Facts as searching
use Rattle.gh_cache.specs.Listing as slots
use Rattle.gh_central.specs.GiveBack as give
use Rattle.gh_central.specs.PassFacts as passing
use Rattle.gh_central.specs.SweptPass as pass
use Rattle.gh_central.specs.UnsweptFacts as sweeping
use Rattle.gh_central.specs.UnsweptPass as unswept
use Rattle.gh_pages.specs.Facts as carving
use Rattle.gh_pages.specs.Listing as carve
use Rattle.gh_alloc.specs.Find.{given_at}
use Rattle.gh_alloc.proofs.FindLasts.{Known, lasts}
use Rattle.gh_alloc.proofs.FindWithin.{within}
use Rattle.gh_alloc.proofs.FindParts.{Apart, begins, finds-none, first-is, is-apart, is-own, Kept, lands, none-apart, none-own, opens, OwnApart, Stands, sweeps-here, taken-of}

-- It goes z.layout on, and has given nothing.

abbrev Onward : Arena → (a : ℕ) → (sure : Bool) → View → (ℕ → Bool) → Finding → Type 0
Onward z a sure v rest f = Right a v (is_locked f.stage) (held f rest) (laying f.stage) × Facts z a sure v rest f

goes-on : (z : Arena) (a : ℕ) (sure : Bool) (v : View) (rest : ℕ → Bool) (f : Finding) → Onward z a sure v rest f → Comes z a sure v rest (given f) f
goes-on z a sure v rest f = grind arith

-- The own steps, in a round that looks for unswept spans or does not: the last one does not.

module _ (k : Known) (z : Arena) (a : ℕ) (sure : Bool) (s : Shared) (rest : ℕ → Bool) (e n : ℕ) (sweeps : Bool) (last : sure ≡ true → sweeps ≡ false) where
  abbrev now : View
  now = view s

  abbrev at : Sought → Option CachedSpan → FindStage → Finding
  at w c q = record { seat = e; generation = n; wanted = w; cached = c; sweeps = sweeps; stage = q }

  -- whose search it is, at any stage
  abbrev Whose : Sought → Type 0
  Whose w = Seeks z a now (at w None Lock)

  whose-of : (w : Sought) (c : Option CachedSpan) (q : FindStage) → Seeks z a now (at w c q) → Whose w
  whose-of w c q x = record { seat = x.seat; few = x.few; number = x.number; wanted = x.wanted }

  abbrev On : Shared → Finding → Type 0
  On t f = Onward z a sure (view t) rest f

  -- the last round looks for a span until it frees the lock
  abbrev Looks : FindStage → Type 0
  Looks q = sure ≡ true → looks q ≡ true

  facts-at : (w : Sought) (c : Option CachedSpan) (q : FindStage) (t : Shared) → Kept s t → Whose w → Caches a (view t) w c → Apart rest c → OwnApart rest (own q) → Looks q → FactsAt z a sure (view t) (at w c q) q → Facts z a sure (view t) rest (at w c q)
  facts-at w c q t same whose caches apart own looks-on x = grind arith

  -- with nothing cached it looks for a span
  none-at : (w : Sought) (q : FindStage) (t : Shared) → Kept s t → Whose w → OwnApart rest (own q) → looks q ≡ true → FactsAt z a sure (view t) (at w None q) q → Facts z a sure (view t) rest (at w None q)
  none-at w q t same whose own looks-on x = grind arith

  abbrev Step : Finding → Type 0
  Step f = Steps z a s (asks z.layout f) (λ t. KeepsObjects now (view t) × (looks f.stage ≡ true → Leaves now (view t)) × Comes z a (still sure f.stage) (view t) rest (gives z.layout f (s.words (cell_of (asks z.layout f)))) (goes z.layout f (s.words (cell_of (asks z.layout f)))))

  on-then : (t : Shared) (f : Finding) → On t f → Comes z a sure (view t) rest (given f) f
  on-then t f h = grind arith

  -- The cached span is searched.

  abbrev start : SpanClass → CachedSpan → slots.Searching
  start c x = slots.opening (span_at c.class x)

  abbrev next : SpanClass → CachedSpan → Bool → slots.Searching
  next c x d = record { span = record { head = x.head; class = c.class; cursor = x.cursor + 1 }; stage = cond d SlotStage.Look (SlotStage.Ended None) }

  -- by the tests that the slot at the cursor is clear and that one stands behind it
  abbrev After : SpanClass → CachedSpan → (b d : Bool) → slots.Searching
  After c x b d = cond b (slots.at_stage (start c x) (SlotStage.Ended (Some x.cursor))) (next c x d)

  abbrev Given : SpanClass → CachedSpan → (b d : Bool) → Option (Option ℕ)
  Given c x b d = slots.given (After c x b d)

  abbrev From : SpanClass → CachedSpan → (b d : Bool) → Finding
  From c x b d = searched (at (Small c) (Some x) (Slots (start c x))) (After c x b d)

  slots-then : (c : SpanClass) (x : CachedSpan) (found : ℕ) (t : Shared) → Kept s t → Whose (Small c) → Looks (Slots (start c x)) → rest x.head ≡ false → x.cursor < slots_of c.class → Right a (view t) false (update rest x.head true) None →
      searching.Comes z a (view t) c.noscan (slots.given (slots.goes (start c x) found)) (slots.goes (start c x) found) →
      Comes z a sure (view t) rest (given (after_slots (searched (at (Small c) (Some x) (Slots (start c x))) (slots.goes (start c x) found)) (slots.given (slots.goes (start c x) found)))) (after_slots (searched (at (Small c) (Some x) (Slots (start c x))) (slots.goes (start c x) found)) (slots.given (slots.goes (start c x) found)))
  slots-then c x found t same whose calm apart left right r = go (slots.is_found (start c x) found) (ltb (x.cursor + 1) (slots_of c.class)) refl r where
    after : CachedSpan
    after = record x { cursor = x.cursor + 1 }

    go : (b d : Bool) → ltb (x.cursor + 1) (slots_of c.class) ≡ d → searching.Comes z a (view t) c.noscan (Given c x b d) (After c x b d) → Comes z a sure (view t) rest (given (after_slots (From c x b d) (Given c x b d))) (after_slots (From c x b d) (Given c x b d))
    go true d is y = record {
      right = right;
      caches = record { span = y.span_held; few = omega (arith, left); taken = y.taken };
      apart = is-apart rest x apart;
      own_apart = none-own rest;
      found = record { claim = y.claim; class = y.class; noscan_is = y.noscan_is };
    }
    go false true is y = (right, facts-at (Small c) (Some after) (Slots (next c x true)) t same whose (record { span = y.span; few = omega (arith, y.cursor); taken = y.taken }) (is-apart rest after apart) (none-own rest) calm (record { c = c; k = after; for = record { wanted = refl; cached = refl }; is = refl; left = y.cursor }))
    go false false is y = (right, facts-at (Small c) (Some after) Lock t same whose (record { span = y.span_held; few = omega (arith, left); taken = taken }) (is-apart rest after apart) (none-own rest) calm (ltb-false (x.cursor + 1) (slots_of c.class) is)) where
      taken : searching.TakenBelow (view t).alloc (span_at c.class after)
      taken j lt = taken-of (view t).alloc y.span_held.h x.head c.class y.span_held.class y.full j (omega (arith, left, lt))

  slots-own : (c : SpanClass) (x : CachedSpan) → Good z now → Whose (Small c) → Looks (Slots (start c x)) → IsCached a now c x → rest x.head ≡ false → x.cursor < slots_of c.class → Right a now false (update rest x.head true) None → Step (at (Small c) (Some x) (Slots (start c x)))
  slots-own c x good whose calm y apart left right =
      lands k z a s _ _ _ good (λ t same r. (r.0, λ e. absurd (cc), slots-then c x (s.words (cell_of (slots.asks z.layout (start c x)))) t same whose calm apart left r.1 r.2))
      (k.search.own_step z a s false (update rest x.head true) None c.noscan (start c x) good right (record { span = y.span; stage = refl; cursor = left; taken = y.taken }))

  -- With the lock.

  carve-then : (w : Sought) (t : Shared) → Good z now → Kept s t → Whose w → NoneLeft z sure (view t) (at w None Lock) w → Right a (view t) true rest None → On t (at w None (Carve (carve.opening e n (span_for w))))
  carve-then w t good same whose none right = grind arith

  spans-then : (w : Sought) (t : Shared) → Good z now → Kept s t → Whose w → Right a (view t) true rest None → On t (at w None (spans_for (at w None Lock) w))
  spans-then w t good same whose right = grind arith

  locked-then : (w : Sought) (c : Option CachedSpan) (t : Shared) → Good z now → Kept s t → Whose w → Looks Lock → Caches a (view t) w c → Apart rest c → IsUsedUp w c → Right a (view t) true (with_span (cached_head c) rest) None → On t (at w c (locked_for (at w c Lock) w c))
  locked-then w c t good same whose calm caches apart used right = grind arith

  -- the lock's word is written: what is cached stays
  caches-with : (w : Sought) (c : Option CachedSpan) (lock : ℕ) (locked : ℕ → Bool) → Caches a now w c → Caches a (record now { lock = lock; locked = locked }) w c
  caches-with w c lock locked y = grind arith

  lock-own : (w : Sought) (c : Option CachedSpan) → Good z now → Whose w → Looks Lock → Caches a now w c → Apart rest c → IsUsedUp w c → Right a now false (with_span (cached_head c) rest) None → Step (at w c Lock)
  lock-own w c good whose calm caches apart used right = go (eqb (s.words Cell.Lock) 0) refl where
    go : (b : Bool) → eqb (s.words Cell.Lock) 0 ≡ b → Lands z a s (cond b (put s.words Cell.Lock (e + 1)) s.words) (λ t. KeepsObjects now (view t) × (false ≡ true → Leaves now (view t)) × Comes z a sure (view t) rest (given_at (cond b (locked_for (at w c Lock) w c) Lock)) (at w c (cond b (locked_for (at w c Lock) w c) Lock)))
    go true is = record {
      move = TakeLock;
      may = eqb-true (s.words Cell.Lock) 0 is;
      words_are = ap (λ (m : ℕ). put s.words Cell.Lock (m + 1)) (sym whose.seat);
      after = ((refl, refl), λ e. absurd (cc), on-then (moved z a s TakeLock) (at w c (locked_for (at w c Lock) w c)) (locked-then w c (moved z a s TakeLock) good refl whose calm (caches-with w c (a + 1) (update s.locked a true) caches) apart used (k.follow z a s false (with_span (cached_head c) rest) None right).taken));
    }
    go false is = record {
      move = Quiet (Ask.Load Cell.Lock);
      may = tt;
      words_are = refl;
      after = ((refl, refl), λ e. absurd (cc), (right, facts-at w c Lock s refl whose caches apart (none-own rest) calm used));
    }

  -- The cached span is given back.

  given-back : (p : ℕ) → rest p ≡ false → (q : ℕ) → update (update rest p true) p false q ≡ rest q
  given-back p apart q = elim (eqb_tells p q) [
    | inl y ↦ ap (λ (b : Bool). cond b false (cond b true (rest q))) y.0 ∙ sym (subst (λ (i : ℕ). rest i ≡ false) y.1 apart)
    | inr m ↦ ap (λ (b : Bool). cond b false (cond b true (rest q))) m.0
  ]

  head-is : (h : SpanHead) (c : SpanClass) → h.class ≡ SizeClass.Small c.class → h.noscan ≡ c.noscan → h.pages ≡ pages_of c.class → h.number ≡ n → owned_by 0 h ≡ given_head n c
  head-is h c class noscan pages number = rw (class, noscan, pages, number) refl

  small-pages : (h : SpanHead) (c : ℕ) → FitsClass h → h.class ≡ SizeClass.Small c → h.pages ≡ pages_of c
  small-pages h c fits class = grind arith

  give-own : (c : SpanClass) (x : CachedSpan) → Good z now → Whose (Small c) → IsCached a now c x → rest x.head ≡ false → slots_of c.class ≤ x.cursor → Right a now true (update rest x.head true) None → Step (at (Small c) (Some x) (Give (give.opening x.head (given_head n c))))
  give-own c x good whose y apart used right =
      lands k z a s _ _ _ good (λ t same r. (r.0, λ e. absurd (cc), on-then t _ (spans-then (Small c) t good same whose (record { locked = r.1.locked; holds = λ q. r.1.holds q ∙ given-back x.head apart q; laying = r.1.laying; freeing = r.1.freeing }))))
      (k.give.gives z a s (update rest x.head true) (give.opening x.head (given_head n c)) good right (record {
        stage = refl;
        h = y.span.h;
        head = y.span.head;
        same = head-is y.span.h c y.span.class y.span.noscan_is (small-pages y.span.h c.class (good.spans x.head y.span.h y.span.head).fits y.span.class) (number ∙ sym whose.number);
        held = y.span.held;
        number = number;
      })) where
        number : y.span.h.number ≡ now.generation
        number = (good.numbers x.head y.span.h y.span.head).owned (λ none. let is : owner_at now.page x.head ≡ y.span.h.owner = ap owner_in y.span.head in omega (arith, (good.owners a x.head).1 y.span.held, is, none))

  -- A span is taken.

  cached-then : (c : SpanClass) (p : ℕ) (h : SpanHead) (m : FindStage) (t : Shared) → Kept s t → Whose (Small c) → IsSpan z.layout.pages (view t).page p h → h.class ≡ SizeClass.Small c.class → h.noscan ≡ c.noscan → Right a (view t) true (update rest p true) None → rest p ≡ false → On t (taken_for z.layout (at (Small c) None m) (Small c) p)
  cached-then c p h m t same whose span class noscan right apart = subst (λ (i : ℕ). On t (at (Small c) (Some (record { head = i; cursor = 0 })) (Unlock Again))) (sym first)
      (right, facts-at (Small c) (Some fresh) (Unlock Again) t same whose caches (is-apart rest fresh apart) (none-own rest) (λ is. refl) (record { c = c; k = fresh; for = record { wanted = refl; cached = refl } })) where
        fresh : CachedSpan
        fresh = record { head = p; cursor = 0 }

        caches : IsCached a (view t) c fresh
        caches = record {
          span = record { h = h; head = span.head; class = class; noscan_is = noscan; held = right.holds p ∙ ap (λ (b : Bool). cond b true (rest p)) (eq-eqb p p refl) };
          few = omega arith;
          taken = λ j lt. absurd (omega (arith, lt));
        }

        first : first_page z.layout (pages_of c.class) p ≡ p
        first = first-is z.layout (pages_of c.class) p (subst (λ (i : ℕ). p + i ≤ z.layout.pages) (small-pages h c.class span.fits class) span.within)

  -- behind the swept spans unswept ones, or else fresh pages
  behind-then : (c : SpanClass) (t : Shared) → Good z now → Kept s t → Whose (Small c) → NoneLeft z sure (view t) (at (Small c) None Lock) (Small c) → Right a (view t) true rest None → On t (at (Small c) None (behind_for (at (Small c) None Lock) (Small c)))
  behind-then c t good same whose none right = grind arith

  pass-then : (c : SpanClass) (t : Shared) (given : Option (Option ℕ)) (m : pass.Pass) → Good z now → Kept s t → Whose (Small c) → m ≡ pass_at (at (Small c) None Lock) c m.stage → passing.Comes z a sure now (view t) rest given m → On t (after_pass z.layout (at (Small c) None (Pass m)) given)
  pass-then c t None m good same whose is r = (r.1, none-at (Small c) (Pass m) t same whose (none-own rest) refl (record { c = c; wanted = refl; cached = refl; is = is; facts = r.2 }))
  pass-then c t (Some None) m good same whose is r = behind-then c t good same whose (subst (λ (y : pass.Pass). passing.HasPassed sure (passing.sought y) (view t) z.layout.pages) is r.2) r.1
  pass-then c t (Some (Some p)) m good same whose is r =
      let y = subst (λ (y : pass.Pass). passing.SpanIsTaken z a y.wanted (view t).page p) is r.2 in
      cached-then c p y.h (Pass m) t same whose y.span y.class y.noscan r.1 r.3

  pass-leaves : (w : View) (given : Option (Option ℕ)) (m : pass.Pass) → passing.Comes z a sure now w rest given m → Leaves now w
  pass-leaves w given m r = grind arith

  pass-own : (c : SpanClass) (m : pass.Pass) → passing.IsSure z sure now → Good z now → Whose (Small c) → m ≡ pass_at (at (Small c) None Lock) c m.stage → passing.Facts z a sure now m → Right a now true rest None → Step (at (Small c) None (Pass m))
  pass-own c m tidy good whose is facts right =
      let found : ℕ = s.words (cell_of (pass.asks z.layout m)) in
      lands k z a s _ _ _ good (λ t same r. (r.0, λ e. pass-leaves (view t) (pass.given (pass.goes z.layout m found)) (pass.goes z.layout m found) r.1, on-then t _ (pass-then c t (pass.given (pass.goes z.layout m found)) (pass.goes z.layout m found) good same whose (ap (λ (y : pass.Pass). pass.at_stage y (pass.goes z.layout m found).stage) is) r.1)))
      (k.pass.own_step z a sure s rest m good right tidy facts)

  -- An unswept span, where the round looks for those.

  not-last : sweeps ≡ true → sure ≡ true → ⊥
  not-last first is = let e = last is in cc

  unswept-then : (c : SpanClass) (t : Shared) (given : Option (Option ℕ)) (m : unswept.Unswept) → Good z now → Kept s t → sweeps ≡ true → Whose (Small c) → m ≡ unswept_at (at (Small c) None Lock) c m.stage → sweeping.Comes z a now (view t) rest given m → On t (after_unswept z.layout (at (Small c) None (Unswept m)) given)
  unswept-then c t None m good same first whose is r = (r.1, none-at (Small c) (Unswept m) t same whose (none-own rest) refl (record { c = c; wanted = refl; cached = refl; first = first; is = is; facts = r.2 }))
  unswept-then c t (Some None) m good same first whose is r = carve-then (Small c) t good same whose (λ sure-is. absurd (not-last first sure-is)) r.1
  unswept-then c t (Some (Some p)) m good same first whose is r =
      let y = subst (λ (y : unswept.Unswept). passing.SpanIsTaken z a y.wanted (view t).page p) is r.2 in
      cached-then c p y.h (Unswept m) t same whose y.span y.class y.noscan r.1 r.3

  unswept-leaves : (w : View) (given : Option (Option ℕ)) (m : unswept.Unswept) → sweeping.Comes z a now w rest given m → Leaves now w
  unswept-leaves w given m r = grind arith

  unswept-own : (c : SpanClass) (m : unswept.Unswept) → unswept.sweep_in m ≡ None → Good z now → sweeps ≡ true → Whose (Small c) → m ≡ unswept_at (at (Small c) None Lock) c m.stage → sweeping.Facts z a now m → Right a now true rest None → Step (at (Small c) None (Unswept m))
  unswept-own c m idle good first whose is facts right =
      let found : ℕ = s.words (cell_of (unswept.asks z.layout m)) in
      lands k z a s _ _ _ good (λ t same r. (r.0, λ e. unswept-leaves (view t) (unswept.given (unswept.goes z.layout m found)) (unswept.goes z.layout m found) r.1, on-then t _ (unswept-then c t (unswept.given (unswept.goes z.layout m found)) (unswept.goes z.layout m found) good same first whose (ap (λ (y : unswept.Unswept). unswept.at_stage y (unswept.goes z.layout m found).stage) is) r.1)))
      (k.unswept.own_step z a s rest m good right facts idle)

  -- what a step of a sweep comes to
  abbrev Sweeps : Shared → Finding → Type 0
  Sweeps t f = KeepsObjects now (view t) × Comes z a sure (view t) rest (gives z.layout f (s.words (cell_of (asks z.layout f)))) (goes z.layout f (s.words (cell_of (asks z.layout f))))

  unswept-sweeps : (c : SpanClass) (m : unswept.Unswept) (sw : Sweeping) → unswept.sweep_in m ≡ Some sw → Good z now → sweeps ≡ true → Whose (Small c) → m ≡ unswept_at (at (Small c) None Lock) c m.stage → sweeping.Facts z a now m → Right a now true rest None →
      (t : Shared) → SweepLeaves now (view t) → t.words ≡ effect s.words (unswept.asks z.layout m) → Sweeps t (at (Small c) None (Unswept m))
  unswept-sweeps c m sw runs good first whose is facts right t leaves words =
      let found : ℕ = s.words (cell_of (unswept.asks z.layout m)) in
      let r = k.unswept.sweep_step z a s t rest m sw good right facts runs leaves words in
      (r.0, on-then t _ (unswept-then c t (unswept.given (unswept.goes z.layout m found)) (unswept.goes z.layout m found) good leaves.leaves.generation first whose (ap (λ (y : unswept.Unswept). unswept.at_stage y (unswept.goes z.layout m found).stage) is) r.1))

  -- Fresh pages.

  none-goes : (w : Sought) (t : Shared) → Leaves now (view t) → NoneLeft z sure now (at w None Lock) w → NoneLeft z sure (view t) (at w None Lock) w
  none-goes (Small c) t leaves x = λ is. k.walks.full now (view t) (head_for (at (Small c) None Lock)) z.layout.pages leaves (x is)
  none-goes (Large pages noscan) t leaves x = x

  large-then : (pages : ℕ) (noscan : Bool) (p : ℕ) (m : FindStage) (q : CarveStage) (t : Shared) → Kept s t → Whose (Large pages noscan) → carving.SpanIsFresh z (view t) (carve_at (at (Large pages noscan) None Lock) q) p → Right a (view t) true (update rest p true) None → rest p ≡ false → On t (taken_for z.layout (at (Large pages noscan) None m) (Large pages noscan) p)
  large-then pages noscan p m q t same whose fresh right apart = subst (λ (i : ℕ). On t (at (Large pages noscan) None (Unlock (End (At (1024 * i)))))) (sym first) (
    subst (λ (i : ℕ). Right a (view t) true (update rest i true) None) page-is right,
    none-at (Large pages noscan) (Unlock (End (At (1024 * p)))) t same whose (is-own rest (1024 * p / 1024) (subst (λ (i : ℕ). rest i ≡ false) page-is apart)) refl (record {
      pages = pages;
      noscan = noscan;
      wanted = refl;
      claim = record {
        p = p;
        h = carve.fresh_head (carve_at (at (Large pages noscan) None Lock) q);
        i = 0;
        held = right.holds p ∙ ap (λ (b : Bool). cond b true (rest p)) (eq-eqb p p refl);
        slot = record { span = fresh.span; inside = omega arith; size_is = refl; at = omega arith };
        clear = fresh.empty (1024 * p) (omega arith) (omega (arith, whose.wanted.0));
      };
      class = refl;
      noscan_is = refl;
      first = page-is;
      head = ap (λ (x : ℕ). head (x + 1) n) whose.seat ∙ ap (λ (x : ℕ). head (a + 1) x) (whose.number ∙ sym same);
    }),
  ) where
    page-is : p ≡ 1024 * p / 1024
    page-is = omega arith

    head : (owner number : ℕ) → SpanHead
    head owner number = record { class = SizeClass.Large; noscan = noscan; pages = pages; owner = owner; number = number }

    first : first_page z.layout pages p ≡ p
    first = first-is z.layout pages p fresh.span.within

  fresh-then : (w : Sought) (t : Shared) (p : ℕ) (m : FindStage) (q : CarveStage) → Kept s t → Whose w → carving.SpanIsFresh z (view t) (carve_at (at w None Lock) q) p → Right a (view t) true (update rest p true) None → rest p ≡ false → On t (taken_for z.layout (at w None m) w p)
  fresh-then (Small c) t p m q same whose fresh right apart = cached-then c p (carve.fresh_head (carve_at (at (Small c) None Lock) q)) m t same whose fresh.span refl refl right apart
  fresh-then (Large pages noscan) t p m q same whose fresh right apart = large-then pages noscan p m q t same whose fresh right apart

  carved : (w : Sought) (t : Shared) (given : Option (Option ℕ)) (m : carve.Carving) → Kept s t → Whose w → NoneLeft z sure now (at w None Lock) w → m ≡ carve_at (at w None Lock) m.stage → carving.Comes z a now (view t) rest given m → On t (after_carve z.layout (at w None (Carve m)) given)
  carved w t None m same whose none is r = (r.1, none-at w (Carve m) t same whose (none-own rest) refl (record { cached = refl; none = none-goes w t r.0 none; is = is; facts = r.2 }))
  carved w t (Some None) m same whose none is r = (r.1, none-at w (Unlock (End NoRoom)) t same whose (none-own rest) refl (record { cached = refl; none = none-goes w t r.0 none; no_run = subst (λ (y : carve.Carving). carving.NoRun (view t).page y.span.pages z.layout.pages) is r.2 }))
  carved w t (Some (Some p)) m same whose none is r = fresh-then w t p (Carve m) m.stage same whose (subst (λ (y : carve.Carving). carving.SpanIsFresh z (view t) y p) is r.2) r.1 r.3

  carve-leaves : (v : View) (given : Option (Option ℕ)) (m : carve.Carving) → carving.Comes z a now v rest given m → Leaves now v
  carve-leaves v given m r = grind arith

  carve-own : (w : Sought) (m : carve.Carving) → Good z now → Whose w → NoneLeft z sure now (at w None Lock) w → m ≡ carve_at (at w None Lock) m.stage → carving.Facts z a now m → Right a now true rest (carving.laying m) → Step (at w None (Carve m))
  carve-own w m good whose none is facts right =
      let found : ℕ = s.words (cell_of (carve.asks m)) in
      lands k z a s _ _ _ good (λ t same r. (r.0, λ e. carve-leaves (view t) (carve.given (carve.goes z.layout m found)) (carve.goes z.layout m found) r.1, on-then t _ (carved w t (carve.given (carve.goes z.layout m found)) (carve.goes z.layout m found) same whose none (ap (λ (y : carve.Carving). carve.at_stage y (carve.goes z.layout m found).stage) is) r.1)))
      (k.carve.own_step z a s rest m good right facts)

  -- The lock is freed.

  lock-leaves : Leaves now (view (moved z a s LeaveLock))
  lock-leaves = record { generation = refl; pages = λ p h e none. inl e; bits = λ p i h head swept lt e. e }

  again-own : (c : SpanClass) (x : CachedSpan) → Whose (Small c) → IsCached a now c x → rest x.head ≡ false → Right a now true (update rest x.head true) None → Step (at (Small c) (Some x) (Unlock Again))
  again-own c x whose y apart right = record {
    move = LeaveLock;
    may = (right.locked, right.laying, right.freeing);
    words_are = refl;
    after = (
      (refl, refl),
      λ e. lock-leaves,
      goes-on z a false (view t) rest anew (begun.0, record { seeks = seeks; caches = caches; apart = is-apart rest x apart; own_apart = begun.2; round = λ is. absurd (cc is); stage = begun.1 }),
    );
  } where
    t : Shared
    t = moved z a s LeaveLock

    caches : Caches a (view t) (Small c) (Some x)
    caches = caches-with (Small c) (Some x) 0 (update s.locked a false) y

    -- a further round is the first
    anew : Finding
    anew = record { seat = e; generation = n; wanted = Small c; cached = Some x; sweeps = true; stage = begin (Small c) (Some x) }

    seeks : Seeks z a (view t) anew
    seeks = record { seat = whose.seat; few = whose.few; number = whose.number; wanted = whose.wanted }

    begun : Stands z a false (view t) rest anew (begin (Small c) (Some x))
    begun = begins z a false (view t) rest anew (Small c) (Some x) refl refl caches (k.follow z a s true (update rest x.head true) None right).left

  large-own : (pages : ℕ) (noscan : Bool) (y : ℕ) → OwnsLarge z a now (at (Large pages noscan) None (Unlock (End (At y)))) y → OwnApart rest (Some (y / 1024)) → Right a now true (update rest (y / 1024) true) None → Step (at (Large pages noscan) None (Unlock (End (At y))))
  large-own pages noscan y x apart right = record {
    move = LeaveLock;
    may = (right.locked, right.laying, right.freeing);
    words_are = refl;
    after = (
      (refl, refl),
      λ e. lock-leaves,
      record {
        right = (k.follow z a s true (update rest (y / 1024) true) None right).left;
        caches = tt;
        apart = none-apart rest;
        own_apart = apart;
        found = record {
          pages = x.pages;
          noscan = x.noscan;
          wanted = x.wanted;
          claim = record { p = x.claim.p; h = x.claim.h; i = x.claim.i; held = x.claim.held; slot = x.claim.slot; clear = x.claim.clear };
          class = x.class;
          noscan_is = x.noscan_is;
          first = x.first;
          head = x.head;
        };
      },
    );
  }

  -- The stages.

  abbrev Own : Sought → Option CachedSpan → FindStage → Type 0
  Own w c q = Good z now → Whose w → Caches a now w c → Apart rest c → OwnApart rest (own q) → Right a now (is_locked q) (held (at w c q) rest) (laying q) → Step (at w c q)

  at-cached : (q : FindStage) (w : Sought) (c : Option CachedSpan) (x : SpanClass) (y : CachedSpan) → IsCachedFor (at w c q) x y → Own (Small x) (Some y) q → Own w c q
  at-cached q w c x y for own = subst (λ (v : Sought). Own v c q) (sym for.wanted) (subst (λ (d : Option CachedSpan). Own (Small x) d q) (sym for.cached) own)

  own-at : passing.IsSure z sure now → (q : FindStage) (w : Sought) (c : Option CachedSpan) → FactsAt z a sure now (at w c q) q → Looks q → refuses_at q ≡ false → sweep_at q ≡ None → Own w c q
  own-at tidy (Slots m) w c x round go idle = at-cached (Slots m) w c x.c x.k (record { wanted = x.for.wanted; cached = x.for.cached })
      (subst (λ (y : slots.Searching). Own (Small x.c) (Some x.k) (Slots y)) (sym x.is) (λ good whose y apart free right. slots-own x.c x.k good whose round y (apart x.k refl) x.left right))
  own-at tidy Lock w c x round go idle = λ good whose y apart free right. lock-own w c good whose round y apart x right
  own-at tidy (Give g) w c x round go idle = at-cached (Give g) w c x.c x.k (record { wanted = x.for.wanted; cached = x.for.cached })
      (subst (λ (y : give.SpanGiving). Own (Small x.c) (Some x.k) (Give y)) (sym x.is) (λ good whose y apart free right. give-own x.c x.k good whose y (apart x.k refl) x.used right))
  own-at tidy (Pass p) w c x round go idle = subst (λ (v : Sought). Own v c (Pass p)) (sym x.wanted) (subst (λ (d : Option CachedSpan). Own (Small x.c) d (Pass p)) (sym x.cached)
      (λ good whose y apart free right. pass-own x.c p tidy good whose x.is x.facts right))
  own-at tidy (Unswept m) w c x round go idle = subst (λ (v : Sought). Own v c (Unswept m)) (sym x.wanted) (subst (λ (d : Option CachedSpan). Own (Small x.c) d (Unswept m)) (sym x.cached)
      (λ good whose y apart free right. unswept-own x.c m idle good x.first whose x.is x.facts right))
  own-at tidy (Carve m) w c x round go idle = subst (λ (d : Option CachedSpan). Own w d (Carve m)) (sym x.cached) (λ good whose y apart free right. carve-own w m good whose x.none x.is x.facts right)
  own-at tidy (Unlock Again) w c x round go idle = at-cached (Unlock Again) w c x.c x.k (record { wanted = x.for.wanted; cached = x.for.cached }) (λ good whose y apart free right. again-own x.c x.k whose y (apart x.k refl) right)
  own-at tidy (Unlock (End (At y))) (Small d) c x round go idle = absurd (small-large x.wanted) where
    small-large : Small d ≡ Large x.pages x.noscan → ⊥
    small-large e = cc
  own-at tidy (Unlock (End (At y))) (Large pages noscan) (Some d) x round go idle = λ good whose caches apart free right. absurd caches
  own-at tidy (Unlock (End (At y))) (Large pages noscan) None x round go idle = λ good whose caches apart free right. large-own pages noscan y x free right
  own-at tidy (Unlock (End NoRoom)) w c x round go idle = absurd (cc)
  own-at tidy (Ended out) w c x round go idle = absurd x

  abbrev Sweep : Sought → Option CachedSpan → FindStage → Type 0
  Sweep w c q = (sw : Sweeping) → sweep_at q ≡ Some sw → Good z now → Whose w → Right a now (is_locked q) (held (at w c q) rest) (laying q) → (t : Shared) → SweepLeaves now (view t) → t.words ≡ effect s.words (asks z.layout (at w c q)) → Sweeps t (at w c q)

  sweep-stage : (q : FindStage) (w : Sought) (c : Option CachedSpan) → FactsAt z a sure now (at w c q) q → Sweep w c q
  sweep-stage (Unswept m) w c x = subst (λ (v : Sought). Sweep v c (Unswept m)) (sym x.wanted) (subst (λ (d : Option CachedSpan). Sweep (Small x.c) d (Unswept m)) (sym x.cached)
      (λ sw runs good whose right t leaves words. unswept-sweeps x.c m sw runs good x.first whose x.is x.facts right t leaves words))
  sweep-stage _ w c x = λ sw runs. absurd (cc runs)

again : Known → LooksAgain
again k z a sure s rest f good tidy seeks cached last right = subst (λ (c : Option CachedSpan). Onward z a sure (view s) rest (record { seat = f.seat; generation = f.generation; wanted = f.wanted; cached = c; sweeps = f.sweeps; stage = spans_for f f.wanted })) (sym cached)
    (spans-then k z a sure s rest f.seat f.generation f.sweeps last f.wanted s good refl (whose-of k z a sure s rest f.seat f.generation f.sweeps last f.wanted f.cached f.stage seeks) right)

own-step : Known → OwnStep
own-step k z a sure s rest f good tidy right x go idle =
    let last : sure ≡ true → f.sweeps ≡ false = λ is. (x.round is).1 in
    own-at k z a sure s rest f.seat f.generation f.sweeps last tidy f.stage f.wanted f.cached x.stage (λ is. (x.round is).0) go idle good (whose-of k z a sure s rest f.seat f.generation f.sweeps last f.wanted f.cached f.stage x.seeks) x.caches x.apart x.own_apart right

sweep-step : Known → SweepStep
sweep-step k z a sure s t rest f sw good then right x runs leaves words =
    let last : sure ≡ true → f.sweeps ≡ false = λ is. (x.round is).1 in
    sweep-stage k z a sure s rest f.seat f.generation f.sweeps last f.stage f.wanted f.cached x.stage sw runs good (whose-of k z a sure s rest f.seat f.generation f.sweeps last f.wanted f.cached f.stage x.seeks) right t leaves words

pub finds_by_its_rights : Known → FindsByItsRights
finds_by_its_rights k = record { opens = opens; again = again k; own_step = own-step k; sweep_step = sweep-step k; here = sweeps-here; within = within k; none = finds-none; lasts = lasts k }
