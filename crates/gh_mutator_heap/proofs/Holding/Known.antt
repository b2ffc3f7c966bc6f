-- What a move of its own leaves to a processor, and what others leave: of its registers, and of the spans that it has cached.
use Rattle.std.proofs.Common.{◌≡◌, ℕ, ◌+◌, ◌*◌, ◌/◌, ◌<◌, ◌≤◌, Bool, true, cond, List, [], length, Option, Some, None, refl, sym, ap, subst, ◌∙◌, arith, slice_index_or}
use Rattle.gh_mutator_heap.proofs.Vocabulary.{Arena, Ask, CachedSpan, CachesAll, CachesFrom, EachMoveKeepsItsOwn, EachRightFollows, effect, Ever, Good, Has, is_own_class, IsCached, IsHeld, IsQuiet, KeepsGhosts, KeepsItsOwn, KeepsObjects, KeepsTaken, KnowsAtAnyTime, KnowsSpans, lists, May, Means, MOST_GOROUTINES, Move, moved, number_of_class, Others, owner_at, owner_in, page_of, PageWord, Place, Polling, Quiet, register_at, register_in_stacks, row_bit, Shared, SizeClass, slot_of, slots_of, span_at, SPAN_CLASSES, span_index, SpanClass, SpanHead, Steps, Value, View, view}
use Rattle.gh_cache.specs.Listing.{slot_at}
use Rattle.gh_mutator_heap.proofs.Holding.Lists.{lists_it}

pub record Known : Type 0 where
  pub follow : EachRightFollows
  pub own : EachMoveKeepsItsOwn

-- what a move of its own leaves, by which no object is made and no value changes
pub record Kept (a : ℕ) (v w : View) : Type 0 where
  pub objects : KeepsObjects v w
  pub own : KeepsItsOwn a v w

-- The registers.

values_kept : (v w : View) → KeepsObjects v w → (g d : ℕ) (y : Value) → Means v.place v.ever.made (v.ever.register g d) y → Means w.place w.ever.made (w.ever.register g d) y
values_kept v w k g d y h = subst (λ (p : Place). Means p w.ever.made (w.ever.register g d) y) (sym k.1) (subst (λ (e : Ever). Means v.place e.made (e.register g d) y) (sym k.0) h)

pub stands_kept : (z : Arena) (a : ℕ) (v w : View) (p : Polling) → KeepsObjects v w → KnowsAtAnyTime z a v p → KnowsAtAnyTime z a w p
stands_kept z a v w p k s = record { sits = s.sits; registers = λ g d of lt. values_kept v w k g d (register_at p g d) (s.registers g d of lt) }

pub stands_stopped : (z : Arena) (a : ℕ) (v w : View) (p : Polling) → KeepsGhosts a v w → KnowsAtAnyTime z a v p → KnowsAtAnyTime z a w p
stands_stopped z a v w p k s = stands_kept z a v w p (k.ever, k.place) s

-- The spans that are held are swept.

abbrev pub HoldsSwept : (a : ℕ) → View → Type 0
HoldsSwept a v = (p : ℕ) (h : SpanHead) → v.holds a p ≡ true → page_of (v.page p) ≡ PageWord.Head h → h.number ≡ v.generation

pub holds_swept : (z : Arena) (a : ℕ) (v : View) → Good z v → HoldsSwept a v
holds_swept z a v good p h held head = (good.numbers p h head).owned (λ none. let is : owner_at v.page p ≡ h.owner = ap owner_in head in omega (arith, (good.owners a p).1 held, is, none))

-- so the slots of a cached one stay taken
taken_kept : (a : ℕ) (v w : View) → HoldsSwept a v → KeepsTaken v.generation v.page v.alloc w.alloc → (c : SpanClass) (k : CachedSpan) → IsCached a v c k → (j : ℕ) → j < k.cursor → row_bit w.alloc (slot_at (span_at c.class k) j) ≡ 1
taken_kept a v w swept keeps c k x j lt = subst (λ (n : ℕ). row_bit w.alloc n ≡ 1) (slot x.span.h.class x.span.class)
    (keeps k.head j x.span.h x.span.head (swept k.head x.span.h x.span.held x.span.head) (count x.span.h.class x.span.class (let few = x.few in omega (arith, lt, few))) (subst (λ (n : ℕ). row_bit v.alloc n ≡ 1) (sym (slot x.span.h.class x.span.class)) (x.taken j lt))) where
      slot : (f : SizeClass) → f ≡ SizeClass.Small c.class → 1024 * k.head + j * cond (is_own_class f) (1024 * x.span.h.pages) (slot_of (number_of_class f) / 8) ≡ slot_at (span_at c.class k) j
      slot f e = rw (e) refl

      count : (f : SizeClass) → f ≡ SizeClass.Small c.class → j < slots_of c.class → j < cond (is_own_class f) 1 (slots_of (number_of_class f))
      count f e few = rw (e) few

module _ (z : Arena) (a : ℕ) (v w : View) (o : Others z a v w) where
  pub stands_last : (p : Polling) → KnowsAtAnyTime z a v p → KnowsAtAnyTime z a w p
  stands_last p s = grind arith

  cached_last : HoldsSwept a v → (c : SpanClass) (k : CachedSpan) → IsCached a v c k → IsCached a w c k
  cached_last swept c k x = record {
    span = record {
      h = x.span.h;
      head = o.heads k.head x.span.h x.span.held x.span.head;
      class = x.span.class;
      noscan_is = x.span.noscan_is;
      held = o.holds k.head ∙ x.span.held;
    };
    few = x.few;
    taken = taken_kept a v w swept o.bits c k x;
  }

  pub caches_last : HoldsSwept a v → (cache : List (Option CachedSpan)) (from : ℕ) → CachesFrom a v cache from → CachesFrom a w cache from
  caches_last swept cache from x i k after below at = cached_last swept _ k (x i k after below at)

  pub knows_last : HoldsSwept a v → (p : Polling) → KnowsSpans a v p → KnowsSpans a w p
  knows_last swept p x = record { generation = x.generation ∙ sym o.generation; caches = λ c k low at. cached_last swept c k (x.caches c k low at) }

-- The cached spans, after a move of its own: those that it holds then.
module _ (a : ℕ) (v w : View) (swept : HoldsSwept a v) (o : KeepsItsOwn a v w) where
  pub cached_kept : (c : SpanClass) (k : CachedSpan) → w.holds a k.head ≡ true → IsCached a v c k → IsCached a w c k
  cached_kept c k held x = record {
    span = record {
      h = x.span.h;
      head = o.heads k.head x.span.h x.span.held held x.span.head;
      class = x.span.class;
      noscan_is = x.span.noscan_is;
      held = held;
    };
    few = x.few;
    taken = taken_kept a v w swept o.bits c k x;
  }

  pub caches_kept : (cache : List (Option CachedSpan)) (from : ℕ) → ((i : ℕ) (k : CachedSpan) → from ≤ i → i < SPAN_CLASSES → slice_index_or cache i None ≡ Some k → w.holds a k.head ≡ true) → CachesFrom a v cache from → CachesFrom a w cache from
  caches_kept cache from held x i k after below at = cached_kept _ k (held i k after below at) (x i k after below at)

  -- where it holds what its cache lists
  pub knows_kept : (p : Polling) (l : Bool) → Has a w l (lists p.local.cache) → KnowsSpans a v p → KnowsSpans a w p
  knows_kept p l right x = record {
    generation = x.generation ∙ sym o.generation;
    caches = λ c k low at. cached_kept c k (right.holds k.head ∙ lists_it p.local.cache (span_index c) k.head k at refl) (x.caches c k low at);
  }

-- A step that is a move of its own, and one on a word that no right guards.
module _ (known : Known) (z : Arena) (a : ℕ) (s : Shared) (good : Good z (view s)) where
  pub by_move : (step : Ask) (m : Move) (Then : Shared → Type 0) → May z a (view s) m → (moved z a s m).words ≡ effect s.words step → KeepsObjects (view s) (view (moved z a s m)) → (Kept a (view s) (view (moved z a s m)) → Then (moved z a s m)) → Steps z a s step Then
  by_move step m Then may words objects f = record { move = m; may = may; words_are = words; after = f (record { objects = objects; own = known.own z a s m good may }) }

  pub by_quiet : (step : Ask) (l : Bool) (h : ℕ → Bool) (Then : Shared → Type 0) → IsQuiet step → Has a (view s) l h → ((t : Shared) → Kept a (view s) (view t) → Has a (view t) l h → Then t) → Steps z a s step Then
  by_quiet step l h Then quiet right f = by_move step (Quiet step) Then quiet refl (refl, refl) (λ kept. f (moved z a s (Quiet step)) kept ((known.follow z a s l h None right).quiet step))

-- What is known of one poll is known of another that has the same of it.
pub stands_to : (z : Arena) (a : ℕ) (v : View) (p q : Polling) → q.seat ≡ p.seat → q.local.stacks ≡ p.local.stacks → length q.local.scanned ≡ MOST_GOROUTINES → length q.local.cache ≡ SPAN_CLASSES → IsHeld z.layout q.local.held → KnowsAtAnyTime z a v p → KnowsAtAnyTime z a v q
stands_to z a v p q seat stacks scanned cache held s = record {
  sits = record {
    seat = seat ∙ s.sits.seat;
    few = s.sits.few;
    stacks = ap length stacks ∙ s.sits.stacks;
    registers = λ g lt. ap (λ (xs : List (List Value)). length (slice_index_or xs g [])) stacks ∙ s.sits.registers g lt;
    scanned = scanned;
    cache = cache;
    held = held;
  };
  registers = λ g d of lt. subst (λ (xs : List (List Value)). Means v.place v.ever.made (v.ever.register g d) (register_in_stacks xs g d)) (sym stacks) (s.registers g d of lt);
}

pub knows_to : (a : ℕ) (v : View) (p q : Polling) → q.local.view.generation ≡ p.local.view.generation → q.local.cache ≡ p.local.cache → KnowsSpans a v p → KnowsSpans a v q
knows_to a v p q generation cache x = record { generation = generation ∙ x.generation; caches = subst (CachesAll a v) (sym cache) x.caches }
