-- A new object's search ends with no room: the second time the statement is answered `full`, the first time it waits for a cycle.
use Rattle.std.proofs.Common.{◌≡◌, ℕ, ◌+◌, ◌<◌, ◌≤◌, Bool, true, false, length, get_or, Option, Some, None, refl, sym, ap, subst, ◌∙◌, arith}
use Rattle.gh_mutator_heap.proofs.Vocabulary.{Act, Arena, at_task, cache_span, cache_with, cached_in, CachedSpan, CachesAll, Cell, Does, EverValue, Finding, FindStage, FoundNone, FullAt, Good, IsFull, IsSought, KeepsItsOwn, LeaveLock, lists, moved, NoRoom, Op, owner_in, page_of, PageWord, Processor, Refuse, rest, Right, Searches, searches, SearchStage, Seeking, set_register, shape_at, Shared, SizeClass, Small, Sought, sought_for, span_class, SPAN_CLASSES, SpanClass, SpanHead, Steps, Value, View, view, Waits, Wanted, with_register}
use Rattle.gh_alloc.specs.declared.find.After.TheVariants as After
use Rattle.gh_alloc.specs.Find as finder
use Rattle.gh_alloc.specs.FindFacts as find
use Rattle.gh_alloc.specs.Search as searcher
use Rattle.gh_alloc.specs.SearchFacts as search
use Rattle.gh_poll.specs.Wait as wait
use Rattle.gh_mutator_heap.proofs.Holding.Known.{holds_swept}
use Rattle.gh_mutator_heap.proofs.Holding.Lists.{index_of, listed_at}
use Rattle.gh_mutator_heap.proofs.Owning.Cache.{cached-same}
use Rattle.gh_mutator_heap.proofs.Owning.Known.{Known}
use Rattle.gh_mutator_heap.proofs.Owning.Searching.{caches-then, held-then, none-large, rest-held, same_wants, steady-cached}
use Rattle.gh_mutator_heap.proofs.Owning.Steady.{HasCached, long_then, Steady, steady_on, steady_register}

same-by : (c d : SpanClass) → SizeClass.Small c.class ≡ SizeClass.Small d.class → c.noscan ≡ d.noscan → c ≡ d
same-by c d e f = grind arith

module _ (k : Known) (z : Arena) (a : ℕ) (s : Shared) (m : Processor) (x : Wanted) (f : Finding) where
  abbrev before : View
  before = view s

  -- the search at its last step
  abbrev last : Seeking
  last = record { find = finder.at_stage f (FindStage.Unlock (After.End NoRoom)); stage = SearchStage.Second }

  abbrev searching : Bool → Processor
  searching waited = at_task m (searches x waited last)

  abbrev caching : Processor
  caching = cache_span m x.sought f.cached

  module _ (g : Good z before) (st : Steady z a before m) (right : Right a before true (find.held last.find (rest m x)) None) (r : Searches z a before m x last None) (none : search.FindsNone z before last.find) where
    sought : IsSought x.sought
    sought = subst IsSought r.wanted r.facts.facts.seeks.wanted

    kept : find.Caches a before x.sought f.cached
    kept = subst (λ (q : Sought). find.Caches a before q f.cached) r.wanted r.facts.facts.caches

    as-it-is : KeepsItsOwn a before before
    as-it-is = record { heads = λ p h held still e. e; bits = λ p i h head number few e. e; generation = refl }

    cached : CachesAll a before caching.poll.local.cache
    cached = caches-then a before before m x f.cached (holds_swept z a before g) as-it-is (λ p e. right.holds p ∙ rest-held None (find.cached_head f.cached) (rest m x) p e) st.1.stands.sits.cache sought kept st.1.knows.caches

    steady : Steady z a before caching
    steady = steady-cached z a before before m x.sought f.cached (refl, refl) refl cached st

    -- what it holds is what is cached then
    holds-cached : (p : ℕ) → before.holds a p ≡ lists caching.poll.local.cache p
    holds-cached p = right.holds p ∙ held-then m x.sought f.cached None p st.1.stands.sits.cache sought (none-large a before x.sought f.cached kept)

    same : x.sought ≡ sought_for (shape_at z.shapes x.t)
    same = ap (λ (q : Wanted). q.sought) r.wants.is

    wanted : f.wanted ≡ sought_for (shape_at z.shapes x.t)
    wanted = r.wanted ∙ same

    -- what it owns is cached for another span class
    own-none : (c : SpanClass) (p : ℕ) (h : SpanHead) → x.sought ≡ Small c → page_of (before.page p) ≡ PageWord.Head h → h.class ≡ SizeClass.Small c.class → h.noscan ≡ c.noscan → h.owner ≡ a + 1 → ⊥
    own-none c p h e head class noscan owner =
        let holds : before.holds a p ≡ true = (g.owners a p).0 (ap owner_in head ∙ owner) in
        let listed : lists (cache_with m.poll.local.cache x.sought None) p ≡ true = sym (ap (λ (j : Option CachedSpan). find.with_span (find.cached_head j) (rest m x) p) none.none.cached) ∙ sym (right.holds p) ∙ holds in
        let l = listed_at (cache_with m.poll.local.cache x.sought None) p listed in
        let long : length (cache_with m.poll.local.cache x.sought None) ≡ SPAN_CLASSES = long_then m.poll.local.cache x.sought None _ st.1.stands.sits.cache in
        let d : SpanClass = span_class l.i in
        let low : d.class < 25 = omega (arith, l.below, long) in
        let at : cached_in (cache_with m.poll.local.cache x.sought None) (Small d) ≡ Some l.k = ap (λ (j : ℕ). get_or (cache_with m.poll.local.cache x.sought None) j None) (index_of l.i) ∙ l.at in
        let is = cached d l.k low (subst (λ (j : Option CachedSpan). cached_in (cache_with m.poll.local.cache x.sought j) (Small d) ≡ Some l.k) (sym none.none.cached) at) in
        let there : page_of (before.page p) ≡ PageWord.Head is.span.h = subst (λ (q : ℕ). page_of (before.page q) ≡ PageWord.Head is.span.h) l.head is.span.head in
        let one : h ≡ is.span.h = cc (head, there) in
        let number : SizeClass.Small c.class ≡ SizeClass.Small d.class = sym class ∙ ap (λ (q : SpanHead). q.class) one ∙ is.span.class in
        let ours : c ≡ d = same-by c d number (sym noscan ∙ ap (λ (q : SpanHead). q.noscan) one ∙ is.span.noscan_is) in
        let clear : cached_in (cache_with m.poll.local.cache (Small c) None) (Small c) ≡ None = cached-same m.poll.local.cache c None st.1.stands.sits.cache (subst (λ (q : SpanClass). q.class < 25) (sym ours) low) in
        let taken : cached_in (cache_with m.poll.local.cache (Small c) None) (Small c) ≡ Some l.k = subst (λ (q : SpanClass). cached_in (cache_with m.poll.local.cache (Small c) None) (Small q) ≡ Some l.k) (sym ours) (subst (λ (q : Sought). cached_in (cache_with m.poll.local.cache q None) (Small d) ≡ Some l.k) e at) in
        absurd (cc (clear, taken))

    below : (p : ℕ) (h : SpanHead) → page_of (before.page p) ≡ PageWord.Head h → p < z.layout.pages
    below p h head = let b = g.spans p h head in omega (arith, b.within, b.fits.some)

    full : (c : SpanClass) (p : ℕ) (h : SpanHead) → f.wanted ≡ Small c → page_of (before.page p) ≡ PageWord.Head h → h.class ≡ SizeClass.Small c.class → h.noscan ≡ c.noscan → h.owner ≡ 0 → IsFull before.alloc p h
    full c p h e head class noscan owner =
        (subst (λ (q : Sought). find.NoneLeft z true before last.find q) e none.none.none refl p h (below p h head) head (class ∙ ap (λ (q : Sought). (finder.span_for q).class) (sym e)) (noscan ∙ ap (λ (q : Sought). (finder.span_for q).noscan) (sym e)) owner).1

    room : FoundNone z a before (searching true) (sought_for (shape_at z.shapes x.t))
    room = record {
      cached = subst (λ (q : Sought). cached_in m.poll.local.cache q ≡ None) same (sym r.cached ∙ none.none.cached);
      own_none = λ c p h e head class noscan owner. own-none c p h (same ∙ e) head class noscan owner;
      full = λ c p h e head class noscan owner. full c p h (wanted ∙ e) head class noscan owner;
      swept = k.swept z before g none.tidy;
      in_use = λ p h head owner. (none.tidy p h (below p h head) head owner).1;
      no_run = subst (λ (q : Sought). (first : ℕ) → first + (finder.span_for q).pages ≤ z.layout.pages → (d : ℕ) × (d < (finder.span_for q).pages) × search.PageIsTaken z before (first + d)) wanted none.run;
    }

    -- the second time
    pub refused : Steps z a s (searcher.asks z.layout last) (λ t. Does z a s t (searching true) None (s.words Cell.Lock))
    refused = record {
      move = Refuse x.g x.d;
      may = (right.locked, right.laying, right.freeing, r.wants.runs, r.wants.register);
      words_are = refl;
      after = record {
        after = None;
        fine = record { counts = then.0; knows = then.1; right = record { locked = right-then.locked; holds = λ p. right-then.holds p ∙ sym (right.holds p) ∙ holds-cached p; laying = right-then.laying; freeing = right-then.freeing }; task = refl };
        ever = refl;
        answers = refl;
        full = λ q e full. subst (λ (o : Op). FullAt z a before (searching true) o) (ap op-of (some-is (record { op = _; full = true }) q e)) room;
        counts = tt;
      };
    } where
      t : Shared
      t = moved z a s (Refuse x.g x.d)

      right-then : Right a (view t) false (find.held last.find (rest m x)) None
      right-then = grind arith

      nil : View
      nil = record before { ever = with_register before.ever x.g x.d EverValue.Nil }

      then : Steady z a (view t) (set_register caching x.g x.d Value.Nil)
      then = steady_on z a nil (view t) (set_register caching x.g x.d Value.Nil) (refl, refl) (holds_swept z a before g) (record { heads = λ p h held still e. e; bits = λ p i h head number few e. e; generation = refl }) (λ p e. holds-cached p ∙ e)
          (steady_register z a before caching x.g x.d EverValue.Nil Value.Nil r.wants.runs.of r.wants.register tt steady)

      op-of : Act → Op
      op-of q = q.op

      some-is : (p q : Act) → Some p ≡ Some q → p ≡ q
      some-is p q e = cc

    -- the first time
    pub waits-then : Steps z a s (searcher.asks z.layout last) (λ t. Does z a s t (searching false) None (s.words Cell.Lock))
    waits-then = record {
      move = LeaveLock;
      may = (right.locked, right.laying, right.freeing);
      words_are = refl;
      after = record {
        after = None;
        fine = record { counts = then.0; knows = begun.1; right = begun.0; task = (same_wants z a before (view t) x (refl, refl) r.wants, refl) };
        ever = refl;
        answers = refl;
        full = λ q e full. absurd (no-act q e);
        counts = tt;
      };
    } where
      t : Shared
      t = moved z a s LeaveLock

      right-then : Right a (view t) false (find.held last.find (rest m x)) None
      right-then = (k.follow z a s true (find.held last.find (rest m x)) None right).left

      then : Steady z a (view t) caching
      then = steady_on z a before (view t) caching (refl, refl) (holds_swept z a before g) (record { heads = λ p h held still e. e; bits = λ p i h head number few e. e; generation = refl }) (λ p e. holds-cached p ∙ e) steady

      at-rest : HasCached a (view t) caching
      at-rest = record { locked = right-then.locked; holds = λ p. right-then.holds p ∙ sym (right.holds p) ∙ holds-cached p; laying = right-then.laying; freeing = right-then.freeing }

      begun : Waits z a (view t) (wait.opening caching.poll)
      begun = k.waits.begins z a (view t) caching.poll (at-rest, then.1)

      no-act : (q : Act) → None ≡ Some q → ⊥
      no-act q e = cc
