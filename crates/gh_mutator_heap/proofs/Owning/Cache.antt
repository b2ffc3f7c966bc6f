-- The cached spans: each at the place of its span class, and which spans they list.
use Rattle.std.proofs.Common.{◌≡◌, ◌≢◌, ℕ, zero, suc, ◌<◌, Bool, true, false, cond, eqb, List, [], ◌∷◌, length, get_or, Option, Some, None, refl, sym, ap, subst, ◌∙◌, arith, get_or-set_same, get_or-set_other, length-set, ◌||◌}
use Rattle.std.proofs.lemmas.Bool.{eqb-true}
use Rattle.gh_mutator_heap.proofs.Vocabulary.{cache_with, cached_head, cached_in, CachedSpan, eqb-false, IsCached, Large, lists, set, set_twice, Small, Sought, span_class, SPAN_CLASSES, span_index, SpanClass, View, with_span}
use Rattle.gh_mutator_heap.proofs.Holding.Lists.{head_tells, index_of, listed_at}

-- The place of a span class tells it.

pub same-class : (c d : SpanClass) → span_index c ≡ span_index d → c ≡ d
same-class c d e = grind arith

pub index-below : (c : SpanClass) → c.class < 25 → span_index c < SPAN_CLASSES
index-below c h = grind arith

-- What is cached.

pub cached-same : (cache : List (Option CachedSpan)) (c : SpanClass) (k : Option CachedSpan) → length cache ≡ SPAN_CLASSES → c.class < 25 → cached_in (cache_with cache (Small c) k) (Small c) ≡ k
cached-same cache c k long below = let lt : span_index c < length cache = subst (λ (n : ℕ). span_index c < n) (sym long) (index-below c below) in rw get_or-set_same refl

pub cached-other : (cache : List (Option CachedSpan)) (c d : SpanClass) (k : Option CachedSpan) → span_index d ≢ span_index c → cached_in (cache_with cache (Small c) k) (Small d) ≡ cached_in cache (Small d)
cached-other cache c d k ne = rw get_or-set_other refl

-- it is cached for these objects from now on, and for those none was before
pub cached-then : (cache : List (Option CachedSpan)) (x : Sought) (k k' : Option CachedSpan) → cache_with (cache_with cache x k) x k' ≡ cache_with cache x k'
cached-then cache (Small c) k k' = set_twice cache (span_index c) k k'
cached-then cache (Large pages noscan) k k' = refl

-- What the cache lists.

or-cond : (b c : Bool) → (b || c) ≡ cond b true c
or-cond b c = grind arith

-- one place apart from the others
pub lists-split : (xs : List (Option CachedSpan)) (i p : ℕ) → lists xs p ≡ with_span (cached_head (get_or xs i None)) (lists (set xs i None)) p
lists-split [] i p = refl
lists-split (None ∷ ys) zero p = refl
lists-split (Some k ∷ ys) zero p = or-cond (eqb k.head p) (lists ys p)
lists-split (None ∷ ys) (suc i) p = lists-split ys i p ∙ go (get_or ys i None) where
  go : (x : Option CachedSpan) → with_span (cached_head x) (lists (set ys i None)) p ≡ with_span (cached_head x) (lists (None ∷ set ys i None)) p
  go x = grind arith
lists-split (Some k ∷ ys) (suc i) p = ap (λ (b : Bool). eqb k.head p || b) (lists-split ys i p) ∙ go (get_or ys i None) where
  go : (x : Option CachedSpan) → (eqb k.head p || with_span (cached_head x) (lists (set ys i None)) p) ≡ with_span (cached_head x) (lists (Some k ∷ set ys i None)) p
  go x = grind arith

pub lists-cached : (cache : List (Option CachedSpan)) (x : Sought) (p : ℕ) → lists cache p ≡ with_span (cached_head (cached_in cache x)) (lists (cache_with cache x None)) p
lists-cached cache x p = grind (arith, lists-split)

-- No span is cached twice.

-- with what is cached for its span class, no other place lists it
pub listed-once : (a : ℕ) (v : View) (cache : List (Option CachedSpan)) (c : SpanClass) (k : CachedSpan) → length cache ≡ SPAN_CLASSES → c.class < 25 →
    ((d : SpanClass) (l : CachedSpan) → d.class < 25 → cached_in cache (Small d) ≡ Some l → IsCached a v d l) → cached_in cache (Small c) ≡ Some k → lists (cache_with cache (Small c) None) k.head ≡ false
listed-once a v cache c k long below all is = go (lists (cache_with cache (Small c) None) k.head) refl where
  twice : lists (cache_with cache (Small c) None) k.head ≡ true → ⊥
  twice e =
      let l = listed_at (cache_with cache (Small c) None) k.head e in
      let d : SpanClass = span_class l.i in
      let long' : length (cache_with cache (Small c) None) ≡ SPAN_CLASSES = rw length-set long in
      let low : d.class < 25 = omega (arith, l.below, long') in
      let at : cached_in (cache_with cache (Small c) None) (Small d) ≡ Some l.k = ap (λ (j : ℕ). get_or (cache_with cache (Small c) None) j None) (index_of l.i) ∙ l.at in
      elsewhere l.i l.k d low l.head at (eqb (span_index d) (span_index c)) refl where
        elsewhere : (i : ℕ) (l : CachedSpan) (d : SpanClass) → d.class < 25 → l.head ≡ k.head → cached_in (cache_with cache (Small c) None) (Small d) ≡ Some l → (b : Bool) → eqb (span_index d) (span_index c) ≡ b → ⊥
        elsewhere i l d low head at true t =
            let same : d ≡ c = same-class d c (eqb-true (span_index d) (span_index c) t) in
            let none : cached_in (cache_with cache (Small c) None) (Small d) ≡ None = ap (λ (x : SpanClass). cached_in (cache_with cache (Small c) None) (Small x)) same ∙ cached-same cache c None long below in
            absurd (cc (none, at))
        elsewhere i l d low head at false t =
            let ne : span_index d ≢ span_index c = eqb-false (span_index d) (span_index c) t in
            let old : cached_in cache (Small d) ≡ Some l = sym (cached-other cache c d None ne) ∙ at in
            ne (ap span_index (head_tells a v d c l k (all d l low old) (all c k below is) head))

  go : (b : Bool) → lists (cache_with cache (Small c) None) k.head ≡ b → lists (cache_with cache (Small c) None) k.head ≡ false
  go true e = absurd (twice e)
  go false e = e
