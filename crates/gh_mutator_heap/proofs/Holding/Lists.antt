-- What a cache lists, and that it lists no span twice: a head tells its span class.
use Rattle.std.proofs.Common.{◌≡◌, ℕ, zero, suc, ◌+◌, ◌<◌, ◌≤◌, Bool, true, false, eqb, List, [], ◌∷◌, drop, length, get_or, Option, Some, None, refl, sym, ap, ◌∙◌, subst, arith, ◌||◌}
use Rattle.std.proofs.lemmas.Bool.{eqb-true, eq-eqb}
use Rattle.std.proofs.lemmas.List.{get_or-drop, length-drop}
use Rattle.gh_mutator_heap.proofs.Vocabulary.{CachedSpan, CachesAll, CachesFrom, IsCached, lists, none_cached, page_of, PageWord, read_replicate, SizeClass, span_class, SPAN_CLASSES, span_index, SpanClass, SpanHead, View}

abbrev no_span : Option CachedSpan
no_span = None

pub none_listed : (p : ℕ) → lists none_cached p ≡ false
none_listed p = grind arith

none_cached_at : (i : ℕ) → get_or none_cached i None ≡ no_span
none_cached_at i = read_replicate 50 i no_span

pub none_cached_all : (a : ℕ) (v : View) → CachesAll a v none_cached
none_cached_all a v c k low e = let none : get_or none_cached (span_index c) None ≡ no_span = none_cached_at (span_index c) in absurd (cc (none, e))

-- each place is that of a span class
pub index_of : (j : ℕ) → span_index (span_class j) ≡ j
index_of j = grind arith

-- what is cached for each class is cached at each place
pub caches_from : (a : ℕ) (v : View) (cache : List (Option CachedSpan)) → CachesAll a v cache → CachesFrom a v cache 0
caches_from a v cache all i k from below e = all (span_class i) k (omega (arith, below)) (ap (λ (j : ℕ). get_or cache j no_span) (index_of i) ∙ e)

-- what is listed is cached at some place, and what is cached is listed
pub record ListedAt (xs : List (Option CachedSpan)) (p : ℕ) : Type 0 where
  pub i : ℕ
  pub k : CachedSpan
  pub below : i < length xs
  pub at : get_or xs i None ≡ Some k
  pub head : k.head ≡ p

behind : (x : Option CachedSpan) (xs : List (Option CachedSpan)) (p : ℕ) → ListedAt xs p → ListedAt (x ∷ xs) p
behind x xs p l = record { i = suc l.i; k = l.k; below = omega (arith, l.below); at = l.at; head = l.head }

pub listed_at : (xs : List (Option CachedSpan)) (p : ℕ) → lists xs p ≡ true → ListedAt xs p
listed_at [] p e = absurd (cc)
listed_at (None ∷ ys) p e = behind None ys p (listed_at ys p e)
listed_at (Some k ∷ ys) p e = by (eqb k.head p) refl e (λ f. listed_at ys p f) where
  by : (b : Bool) → eqb k.head p ≡ b → (b || lists ys p) ≡ true → (lists ys p ≡ true → ListedAt ys p) → ListedAt (Some k ∷ ys) p
  by true t f rest = record { i = 0; k = k; below = omega arith; at = refl; head = eqb-true k.head p t }
  by false t f rest = behind (Some k) ys p (rest f)

pub lists_it : (xs : List (Option CachedSpan)) (i p : ℕ) (k : CachedSpan) → get_or xs i None ≡ Some k → k.head ≡ p → lists xs p ≡ true
lists_it [] i p k e head = absurd (cc)
lists_it (None ∷ ys) zero p k e head = absurd (cc)
lists_it (Some x ∷ ys) zero p k e head =
    let same : x ≡ k = cc in
    ap (λ (b : Bool). b || lists ys p) (eq-eqb x.head p (ap (λ (y : CachedSpan). y.head) same ∙ head))
lists_it (None ∷ ys) (suc i) p k e head = lists_it ys i p k e head
lists_it (Some x ∷ ys) (suc i) p k e head = by (eqb x.head p) (lists_it ys i p k e head) where
  by : (b : Bool) → lists ys p ≡ true → (b || lists ys p) ≡ true
  by b rest = grind arith

-- A head tells its span class.

abbrev class_of : (class : ℕ) (noscan : Bool) → SpanClass
class_of class noscan = record { class = class; noscan = noscan }

pub head_tells : (a : ℕ) (v : View) (c d : SpanClass) (k l : CachedSpan) → IsCached a v c k → IsCached a v d l → k.head ≡ l.head → c ≡ d
head_tells a v c d k l x y e =
    let at : page_of (v.page k.head) ≡ PageWord.Head y.span.h = subst (λ (p : ℕ). page_of (v.page p) ≡ PageWord.Head y.span.h) (sym e) y.span.head in
    let same : x.span.h ≡ y.span.h = cc (x.span.head, at) in
    let class : SizeClass.Small c.class ≡ SizeClass.Small d.class = sym x.span.class ∙ ap (λ (h : SpanHead). h.class) same ∙ y.span.class in
    let number : c.class ≡ d.class = cc in
    ap (λ (n : ℕ). class_of n c.noscan) number ∙ ap (λ (b : Bool). class_of d.class b) (sym x.span.noscan_is ∙ ap (λ (h : SpanHead). h.noscan) same ∙ y.span.noscan_is)

module _ (a : ℕ) (v : View) (cache : List (Option CachedSpan)) (long : length cache ≡ SPAN_CLASSES) where
  -- what is listed behind a place is cached at a place behind it
  pub record Behind (from p : ℕ) : Type 0 where
    pub i : ℕ
    pub k : CachedSpan
    pub after : from ≤ i
    pub below : i < SPAN_CLASSES
    pub at : get_or cache i None ≡ Some k
    pub head : k.head ≡ p

  pub listed_behind : (from p : ℕ) → from ≤ SPAN_CLASSES → lists (drop from cache) p ≡ true → Behind from p
  listed_behind from p few e =
      let l = listed_at (drop from cache) p e in
      record { i = from + l.i; k = l.k; after = omega arith; below = omega (arith, l.below, length-drop from cache, long, few); at = sym (get_or-drop from cache l.i no_span) ∙ l.at; head = l.head }

  -- the span that is cached at a place is not listed behind it
  pub listed_once : (i : ℕ) (k : CachedSpan) → i < SPAN_CLASSES → get_or cache i None ≡ Some k → CachesFrom a v cache i → lists (drop (i + 1) cache) k.head ≡ false
  listed_once i k low at caches = by (lists (drop (i + 1) cache) k.head) refl where
    by : (b : Bool) → lists (drop (i + 1) cache) k.head ≡ b → b ≡ false
    by false e = refl
    by true e =
        let b = listed_behind (i + 1) k.head (omega (arith, low)) e in
        let same : span_class b.i ≡ span_class i = head_tells a v (span_class b.i) (span_class i) b.k k (caches b.i b.k (omega (arith, b.after)) b.below b.at) (caches i k (omega arith) low at) b.head in
        let index : b.i ≡ i = sym (index_of b.i) ∙ ap span_index same ∙ index_of i in
        absurd (omega (arith, index, b.after))
