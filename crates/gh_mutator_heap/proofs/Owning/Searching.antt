-- The search for a new object's slot: how it begins, what a step of it comes to where it goes on, and where it ends with no room. The search is known by its law alone.
use Rattle.std.proofs.Common.{◌≡◌, ◌≢◌, ℕ, ◌<◌, Bool, true, false, cond, eqb, List, length, Option, Some, None, refl, sym, ap, subst, ◌∙◌, arith}
use Rattle.std.proofs.lemmas.Bool.{eqb-true}
use Rattle.gh_mutator_heap.proofs.Vocabulary.{Arena, at_task, cache_span, cache_with, cached_for, cached_in, CachedSpan, CachesAll, cell_of, eqb-false, Ever, Finding, IsSought, KeepsItsOwn, KeepsObjects, Large, lists, MOST_STATEMENTS, Processor, ProcessorFacts, rest, Rests, search_wants, Searches, searches, SearchStage, Seeking, seeking, seeks_now, Shared, Small, Sought, SPAN_CLASSES, span_index, SpanClass, View, view, Wanted, Wants}
use Rattle.gh_alloc.specs.FindFacts as find
use Rattle.gh_alloc.specs.Search as searcher
use Rattle.gh_alloc.specs.SearchFacts as search
use Rattle.gh_mutator_heap.proofs.Holding.Known.{cached_kept, HoldsSwept, stands_kept}
use Rattle.gh_mutator_heap.proofs.Holding.Lists.{lists_it}
use Rattle.gh_mutator_heap.proofs.Owning.Cache.{cached-other, cached-same, cached-then, listed-once, lists-cached, same-class}
use Rattle.gh_mutator_heap.proofs.Owning.Known.{Known}
use Rattle.gh_mutator_heap.proofs.Owning.Steady.{HasCached, same_counts, same_runs, sits_cached, Steady}

pub same_wants : (z : Arena) (a : ℕ) (v w : View) (x : Wanted) → KeepsObjects v w → Wants z a v x → Wants z a w x
same_wants z a v w x o r = record { runs = same_runs z a x.g v w o r.runs; register = r.register; type = r.type; few = subst (λ (e : Ever). e.made x.g < MOST_STATEMENTS) (sym o.0) r.few; is = r.is }

-- what the seat holds beside the search's span, and with it
pub rest-held : (o h : Option ℕ) (rest : ℕ → Bool) (p : ℕ) → rest p ≡ true → find.with_span o (find.with_span h rest) p ≡ true
rest-held o h rest p e = grind arith

-- a span that is cached for another span class is one of the rest
other-rest : (m : Processor) (x : Sought) (d : SpanClass) (l : CachedSpan) → cached_in (cache_with m.poll.local.cache x None) (Small d) ≡ Some l → lists (cache_with m.poll.local.cache x None) l.head ≡ true
other-rest m x d l e = lists_it (cache_with m.poll.local.cache x None) (span_index d) l.head l e refl

-- What the search has cached, at whichever of its stages, and what the seat holds beside it.

pub record SeeksWith (z : Arena) (a : ℕ) (v : View) (f : Finding) : Type 0 where
  pub seeks : find.Seeks z a v f
  pub caches : find.Caches a v f.wanted f.cached

pub seeks-with : (z : Arena) (a : ℕ) (v : View) (rest : ℕ → Bool) (f : Finding) (q : SearchStage) → search.FactsAt z a v rest f q → SeeksWith z a v f
seeks-with z a v rest f q h = grind arith

pub rest-at : (f : Finding) (q : SearchStage) (rest : ℕ → Bool) (p : ℕ) → rest p ≡ true → search.held f q rest p ≡ true
rest-at f q rest p e = grind arith

module _ (a : ℕ) (v w : View) (m : Processor) (x : Wanted) where
  -- each cached span is so still, where the search's is and the seat holds the others
  pub caches-then : (j : Option CachedSpan) → HoldsSwept a v → KeepsItsOwn a v w → ((p : ℕ) → rest m x p ≡ true → w.holds a p ≡ true) → length m.poll.local.cache ≡ SPAN_CLASSES → IsSought x.sought → find.Caches a w x.sought j → CachesAll a v m.poll.local.cache → CachesAll a w (cache_with m.poll.local.cache x.sought j)
  caches-then j swept own held long sought caches all d l below is = go x.sought refl where
    old : cached_for m (Small d) ≡ Some l → rest m x l.head ≡ true → find.IsCached a w d l
    old e r = cached_kept a v w swept own d l (held l.head r) (all d l below e)

    small : (c : SpanClass) → x.sought ≡ Small c → c.class < 25 → (b : Bool) → eqb (span_index d) (span_index c) ≡ b → find.IsCached a w d l
    small c e low true t =
        let same : d ≡ c = same-class d c (eqb-true (span_index d) (span_index c) t) in
        let now : cached_in (cache_with m.poll.local.cache (Small c) j) (Small c) ≡ Some l = subst (λ (y : SpanClass). cached_in (cache_with m.poll.local.cache (Small c) j) (Small y) ≡ Some l) same (subst (λ (y : Sought). cached_in (cache_with m.poll.local.cache y j) (Small d) ≡ Some l) e is) in
        let it : j ≡ Some l = sym (cached-same m.poll.local.cache c j long low) ∙ now in
        subst (λ (y : SpanClass). find.IsCached a w y l) (sym same) (subst (λ (y : Option CachedSpan). find.Caches a w (Small c) y) it (subst (λ (y : Sought). find.Caches a w y j) e caches))
    small c e low false t =
        let ne : span_index d ≢ span_index c = eqb-false (span_index d) (span_index c) t in
        let before : cached_for m (Small d) ≡ Some l = sym (cached-other m.poll.local.cache c d j ne) ∙ subst (λ (y : Sought). cached_in (cache_with m.poll.local.cache y j) (Small d) ≡ Some l) e is in
        old before (subst (λ (y : Sought). lists (cache_with m.poll.local.cache y None) l.head ≡ true) (sym e) (other-rest m (Small c) d l (cached-other m.poll.local.cache c d None ne ∙ before)))

    go : (y : Sought) → x.sought ≡ y → find.IsCached a w d l
    go (Small c) e = small c e (subst IsSought e sought) (eqb (span_index d) (span_index c)) refl
    go (Large pages noscan) e =
        let before : cached_for m (Small d) ≡ Some l = subst (λ (y : Sought). cached_in (cache_with m.poll.local.cache y j) (Small d) ≡ Some l) e is in
        old before (subst (λ (y : Sought). lists (cache_with m.poll.local.cache y None) l.head ≡ true) (sym e) (other-rest m (Large pages noscan) d l before))

-- What the seat holds is what is cached, with the search's own span.
pub held-then : (m : Processor) (x : Sought) (j : Option CachedSpan) (o : Option ℕ) (p : ℕ) → length m.poll.local.cache ≡ SPAN_CLASSES → IsSought x → (((pages : ℕ) (noscan : Bool) → x ≡ Large pages noscan → j ≡ None)) →
    find.with_span o (find.with_span (find.cached_head j) (lists (cache_with m.poll.local.cache x None))) p ≡ find.with_span o (lists (cache_with m.poll.local.cache x j)) p
held-then m x j o p long sought large = outer o where
  it : (y : Sought) → IsSought y → ((pages : ℕ) (noscan : Bool) → y ≡ Large pages noscan → j ≡ None) → find.with_span (find.cached_head j) (lists (cache_with m.poll.local.cache y None)) p ≡ lists (cache_with m.poll.local.cache y j) p
  it (Small c) low e = sym (lists-cached (cache_with m.poll.local.cache (Small c) j) (Small c) p ∙ ap (λ (i : Option CachedSpan). find.with_span (find.cached_head i) (lists (cache_with (cache_with m.poll.local.cache (Small c) j) (Small c) None)) p) (cached-same m.poll.local.cache c j long low)
      ∙ ap (λ (xs : List (Option CachedSpan)). find.with_span (find.cached_head j) (lists xs) p) (cached-then m.poll.local.cache (Small c) j None))
  it (Large pages noscan) low e = ap (λ (i : Option CachedSpan). find.with_span (find.cached_head i) (lists m.poll.local.cache) p) (e pages noscan refl)

  outer : (o : Option ℕ) → find.with_span o (find.with_span (find.cached_head j) (lists (cache_with m.poll.local.cache x None))) p ≡ find.with_span o (lists (cache_with m.poll.local.cache x j)) p
  outer None = it x sought large
  outer (Some q) = ap (λ (b : Bool). cond (eqb q p) true b) (it x sought large)

-- a large object's search has nothing cached
pub none-large : (a : ℕ) (v : View) (x : Sought) (j : Option CachedSpan) → find.Caches a v x j → (pages : ℕ) (noscan : Bool) → x ≡ Large pages noscan → j ≡ None
none-large a v x j h pages noscan e = grind arith

-- the processor has cached this from now on
pub steady-cached : (z : Arena) (a : ℕ) (v w : View) (m : Processor) (x : Sought) (j : Option CachedSpan) → KeepsObjects v w → w.generation ≡ v.generation → CachesAll a w (cache_with m.poll.local.cache x j) → Steady z a v m → Steady z a w (cache_span m x j)
steady-cached z a v w m x j o same caches st = (
  same_counts z a v w m.made o st.0,
  record {
    stands = record { sits = sits_cached z a m.poll x j st.1.stands.sits; registers = (stands_kept z a v w m.poll o st.1.stands).registers };
    knows = record { generation = st.1.knows.generation ∙ sym same; caches = caches };
  },
)

-- It begins, with what is cached for the objects that are sought.

module _ (k : Known) (z : Arena) (a : ℕ) (v : View) (m : Processor) where
  caches : (x : Sought) → IsSought x → CachesAll a v m.poll.local.cache → find.Caches a v x (cached_for m x)
  caches (Small c) low all = go (cached_for m (Small c)) refl where
    go : (j : Option CachedSpan) → cached_for m (Small c) ≡ j → find.Caches a v (Small c) (cached_for m (Small c))
    go None e = subst (λ (i : Option CachedSpan). find.Caches a v (Small c) i) (sym e) tt
    go (Some l) e = subst (λ (i : Option CachedSpan). find.Caches a v (Small c) i) (sym e) (all c l low e)
  caches (Large pages noscan) low all = tt

  apart : (x : Sought) → IsSought x → length m.poll.local.cache ≡ SPAN_CLASSES → CachesAll a v m.poll.local.cache → (l : CachedSpan) → cached_for m x ≡ Some l → lists (cache_with m.poll.local.cache x None) l.head ≡ false
  apart (Small c) low long all l e = listed-once a v m.poll.local.cache c l long low all e
  apart (Large pages noscan) low long all l e = absurd (cc)

  pub seek-begins : (x : Wanted) (waited : Bool) → IsSought x.sought → Wants z a v x → Steady z a v m → HasCached a v m → ProcessorFacts z a v (at_task m (searches x waited (seeking m x))) None
  seek-begins x waited sought wants st right = record { counts = st.0; knows = st.1; right = began.0; task = record { wants = wants; wanted = refl; cached = refl; facts = began.1; unanswered = refl } } where
    y : Rests z a v m.poll
    y = st.1

    seeks : find.Seeks z a v (seeking m x).find
    seeks = record { seat = y.stands.sits.seat; few = omega (arith, y.stands.sits.few, z.layout.limits.procs_fit.1); number = seeks_now m x ∙ y.knows.generation; wanted = sought }

    began : search.Has a v (rest m x) (seeking m x) × search.Facts z a v (rest m x) (seeking m x)
    began = k.search.opens z a v (rest m x) (seeking m x) seeks (caches x.sought sought y.knows.caches) (apart x.sought sought y.stands.sits.cache y.knows.caches)
        (record { locked = right.locked; holds = λ p. right.holds p ∙ lists-cached m.poll.local.cache x.sought p; laying = right.laying; freeing = right.freeing }) refl

-- It goes on.

module _ (z : Arena) (a : ℕ) (s : Shared) (m : Processor) (x : Wanted) (q : Seeking) where
  abbrev now : View
  now = view s

  abbrev found : ℕ
  found = s.words (cell_of (searcher.asks z.layout q))

  -- the search after the step, and the processor that has cached what it has
  abbrev next : Seeking
  next = searcher.goes z.layout q found

  abbrev caching : Processor
  caching = cache_span m x.sought next.find.cached

  pub goes-on : (t : Shared) (waited : Bool) → Steady z a now m → Searches z a now m x q None → KeepsObjects now (view t) → HoldsSwept a now → KeepsItsOwn a now (view t) → search.Has a (view t) (rest m x) next × search.Facts z a (view t) (rest m x) next → ProcessorFacts z a (view t) (at_task caching (searches x waited next)) None
  goes-on t waited st r o swept own c = record {
    counts = steady.0;
    knows = steady.1;
    right = record { locked = c.0.locked; holds = λ p. c.0.holds p ∙ ap (λ (xs : List (Option CachedSpan)). search.held next.find next.stage (lists xs) p) (sym again); laying = c.0.laying; freeing = c.0.freeing };
    task = record {
      wants = same_wants z a now (view t) x o r.wants;
      wanted = wanted;
      cached = cached x.sought sought (none-large a (view t) x.sought next.find.cached kept);
      facts = subst (λ (xs : List (Option CachedSpan)). search.Facts z a (view t) (lists xs) next) (sym again) c.1;
      unanswered = refl;
    };
  } where
    has : SeeksWith z a (view t) next.find
    has = seeks-with z a (view t) (rest m x) next.find next.stage c.1

    wanted : next.find.wanted ≡ x.sought
    wanted = search_wants z.layout q found ∙ r.wanted

    sought : IsSought x.sought
    sought = subst IsSought wanted has.seeks.wanted

    kept : find.Caches a (view t) x.sought next.find.cached
    kept = subst (λ (y : Sought). find.Caches a (view t) y next.find.cached) wanted has.caches

    others : (p : ℕ) → rest m x p ≡ true → (view t).holds a p ≡ true
    others p e = c.0.holds p ∙ rest-at next.find next.stage (rest m x) p e

    steady : Steady z a (view t) caching
    steady = steady-cached z a now (view t) m x.sought next.find.cached o own.generation (caches-then a now (view t) m x next.find.cached swept own others st.1.stands.sits.cache sought kept st.1.knows.caches) st

    again : cache_with (cache_with m.poll.local.cache x.sought next.find.cached) x.sought None ≡ cache_with m.poll.local.cache x.sought None
    again = cached-then m.poll.local.cache x.sought next.find.cached None

    cached : (y : Sought) → IsSought y → ((pages : ℕ) (noscan : Bool) → y ≡ Large pages noscan → next.find.cached ≡ None) → next.find.cached ≡ cached_in (cache_with m.poll.local.cache y next.find.cached) y
    cached (Small c) low large = sym (cached-same m.poll.local.cache c next.find.cached st.1.stands.sits.cache low)
    cached (Large pages noscan) low large = large pages noscan refl
