-- What is known of a processor while it runs a statement, whatever that is at, and what is left of it where one thing changes: its registers, its notes of scans, the spans that it has cached, or the heap that never frees.
use Rattle.std.proofs.Common.{◌≡◌, ◌≢◌, ℕ, ◌<◌, Bool, true, false, cond, eqb, List, [], length, get_or, Option, None, refl, sym, ap, subst, ◌∙◌, arith, get_or-set_same, get_or-set_other, length-set, ◌&&◌}
use Rattle.std.proofs.lemmas.Bool.{eqb-true, eq-eqb}
use Rattle.gh_mutator_heap.proofs.Vocabulary.{Arena, cache_with, CachedSpan, CachesAll, eqb-false, Ever, ever_with, EverValue, Freeing, GoroutineRuns, IsCached, IsOf, KeepsItsOwn, KeepsObjects, KnowsCounts, KnowsSpans, Large, Laying, lists, Means, MOST_GOROUTINES, Polling, PollRegistersFit, Processor, read_after_set, register_at, register_in_stacks, REGISTERS, Rests, Right, Rights, Row, SeatFacts, set, set_register, Small, Sought, SpanClass, stacks_with, Value, View, with_cached, with_register_value}
use Rattle.gh_mutator_heap.proofs.Holding.Known.{cached_kept, HoldsSwept, stands_kept}
use Rattle.gh_mutator_heap.proofs.Holding.Lists.{lists_it}

abbrev pub Steady : Arena → (a : ℕ) → View → Processor → Type 0
Steady z a v m = KnowsCounts z a v m.made × Rests z a v m.poll

-- it has no lock, and holds what it has cached
abbrev pub HasCached : (a : ℕ) → View → Processor → Type 0
HasCached a v m = Right a v false (lists m.poll.local.cache) None

both : (a b : Bool) → (a && b) ≡ true → (a ≡ true) × (b ≡ true)
both a b e = grind arith

pub goroutine_few : (z : Arena) (a g : ℕ) → IsOf z a g → g < MOST_GOROUTINES
goroutine_few z a g of = omega (arith, of.0, z.layout.limits.goroutines_fit.1)

-- A register takes a value.

module _ (stacks : List (List Value)) (g d : ℕ) (y : Value) (few : g < length stacks) where
  same_register : d < length (get_or stacks g []) → register_in_stacks (stacks_with stacks g d y) g d ≡ y
  same_register low = ap (λ (r : List Value). get_or r d Value.Nil) (get_or-set_same stacks g (set (get_or stacks g []) d y) [] few) ∙ get_or-set_same (get_or stacks g []) d y Value.Nil low

  beside : (c : ℕ) → c ≢ d → register_in_stacks (stacks_with stacks g d y) g c ≡ register_in_stacks stacks g c
  beside c ne = ap (λ (r : List Value). get_or r c Value.Nil) (get_or-set_same stacks g (set (get_or stacks g []) d y) [] few) ∙ get_or-set_other (get_or stacks g []) d c y Value.Nil ne

  other_register : (h c : ℕ) → ((h ≡ g) → c ≢ d) → register_in_stacks (stacks_with stacks g d y) h c ≡ register_in_stacks stacks h c
  other_register h c ne = go (eqb h g) refl where
    go : (b : Bool) → eqb h g ≡ b → register_in_stacks (stacks_with stacks g d y) h c ≡ register_in_stacks stacks h c
    go true e =
        let same : h ≡ g = eqb-true h g e in
        subst (λ (n : ℕ). register_in_stacks (stacks_with stacks g d y) n c ≡ register_in_stacks stacks n c) (sym same) (beside c (ne same))
    go false e = ap (λ (r : List Value). get_or r c Value.Nil) (get_or-set_other stacks g h (set (get_or stacks g []) d y) [] (eqb-false h g e))

pub sits_register : (z : Arena) (a : ℕ) (p : Polling) (g d : ℕ) (y : Value) → SeatFacts z a p → SeatFacts z a (with_register_value p g d y)
sits_register z a p g d y s = record {
  seat = s.seat;
  few = s.few;
  stacks = length-set p.local.stacks g (set (get_or p.local.stacks g []) d y) ∙ s.stacks;
  registers = λ h low. read_after_set (λ (r : List Value). length r ≡ REGISTERS) p.local.stacks g h (set (get_or p.local.stacks g []) d y) [] (λ e. length-set (get_or p.local.stacks g []) d y ∙ s.registers g (subst (λ (n : ℕ). n < MOST_GOROUTINES) (sym e) low)) (s.registers h low);
  scanned = s.scanned;
  cache = s.cache;
  held = s.held;
}

-- in the heap that never frees it takes what it means
pub registers_then : (z : Arena) (a : ℕ) (v : View) (p : Polling) (g d : ℕ) (x : EverValue) (y : Value) → SeatFacts z a p → IsOf z a g → d < REGISTERS → Means v.place v.ever.made x y → PollRegistersFit z a v p →
    (h c : ℕ) → IsOf z a h → c < REGISTERS → Means v.place v.ever.made ((ever_with v.ever g d x).register h c) (register_at (with_register_value p g d y) h c)
registers_then z a v p g d x y s of low means fit h c hof lc = go (eqb h g && eqb c d) refl where
  few : g < length p.local.stacks
  few = omega (arith, s.stacks, goroutine_few z a g of)

  in_row : d < length (get_or p.local.stacks g [])
  in_row = omega (arith, low, s.registers g (goroutine_few z a g of))

  go : (b : Bool) → (eqb h g && eqb c d) ≡ b → Means v.place v.ever.made (cond b x (v.ever.register h c)) (register_at (with_register_value p g d y) h c)
  go true t =
      let e = both (eqb h g) (eqb c d) t in
      subst (λ (n : ℕ). Means v.place v.ever.made x (register_at (with_register_value p g d y) n c)) (sym (eqb-true h g e.0)) (subst (λ (n : ℕ). Means v.place v.ever.made x (register_at (with_register_value p g d y) g n)) (sym (eqb-true c d e.1))
      (subst (λ (r : Value). Means v.place v.ever.made x r) (sym (same_register p.local.stacks g d y few in_row)) means))
  go false t = subst (λ (r : Value). Means v.place v.ever.made (v.ever.register h c) r) (sym (other_register p.local.stacks g d y few h c (λ e f. absurd (cc (t, eq-eqb h g e, eq-eqb c d f))))) (fit h c hof lc)

-- The fields, the globals and the heap that never frees are these.
module _ (a : ℕ) (v : View) (field global : Row) (e : Ever) where
  abbrev pub with_values : View
  with_values = record v { field = field; global = global; ever = e }

  pub cached_with : (c : SpanClass) (k : CachedSpan) → IsCached a v c k → IsCached a with_values c k
  cached_with c k x = record { span = record { h = x.span.h; head = x.span.head; class = x.span.class; noscan_is = x.span.noscan_is; held = x.span.held }; few = x.few; taken = x.taken }

  pub knows_with : (p q : Polling) → q.local.view.generation ≡ p.local.view.generation → q.local.cache ≡ p.local.cache → KnowsSpans a v p → KnowsSpans a with_values q
  knows_with p q generation cache k = record {
    generation = generation ∙ k.generation;
    caches = subst (λ (ks : List (Option CachedSpan)). CachesAll a with_values ks) (sym cache) (λ c s low is. cached_with c s (k.caches c s low is));
  }

  pub rights_with : (l : Bool) (h : ℕ → Bool) (y : Option Laying) (f : Option Freeing) → Rights a v l h y f → Rights a with_values l h y f
  rights_with l h y f r = record { locked = r.locked; holds = r.holds; laying = r.laying; freeing = r.freeing }

pub counts_with : (z : Arena) (a : ℕ) (v w : View) (made : List ℕ) → ((g : ℕ) → IsOf z a g → w.ever.made g ≡ v.ever.made g) → KnowsCounts z a v made → KnowsCounts z a w made
counts_with z a v w made same k = record { places = k.places; each = λ g of. k.each g of ∙ sym (same g of) }

-- its register takes a value
pub steady_register : (z : Arena) (a : ℕ) (v : View) (m : Processor) (g d : ℕ) (x : EverValue) (y : Value) → IsOf z a g → d < REGISTERS → Means v.place v.ever.made x y → Steady z a v m → Steady z a (record v { ever = ever_with v.ever g d x }) (set_register m g d y)
steady_register z a v m g d x y of low means st = (
  counts_with z a v (record v { ever = ever_with v.ever g d x }) m.made (λ h hof. refl) st.0,
  record {
    stands = record { sits = sits_register z a m.poll g d y st.1.stands.sits; registers = registers_then z a v m.poll g d x y st.1.stands.sits of low means st.1.stands.registers };
    knows = knows_with a v v.field v.global (ever_with v.ever g d x) m.poll (with_register_value m.poll g d y) refl refl st.1.knows;
  },
)

-- no object is made, and the registers stay
pub steady_values : (z : Arena) (a : ℕ) (v : View) (m : Processor) (field global : Row) (e : Ever) → e.made ≡ v.ever.made → e.register ≡ v.ever.register → Steady z a v m → Steady z a (with_values a v field global e) m
steady_values z a v m field global e made register st = grind arith

pub sits_ended : (z : Arena) (a : ℕ) (p : Polling) (g n : ℕ) → SeatFacts z a p → SeatFacts z a (record p { local = record (p.local) { scanned = set p.local.scanned g n } })
sits_ended z a p g n s = record { seat = s.seat; few = s.few; stacks = s.stacks; registers = s.registers; scanned = length-set p.local.scanned g n ∙ s.scanned; cache = s.cache; held = s.held }

-- What is cached is another.

pub long_then : (cache : List (Option CachedSpan)) (x : Sought) (k : Option CachedSpan) (n : ℕ) → length cache ≡ n → length (cache_with cache x k) ≡ n
long_then cache (Small c) k n e = rw length-set e
long_then cache (Large pages noscan) k n e = e

pub sits_cached : (z : Arena) (a : ℕ) (p : Polling) (x : Sought) (k : Option CachedSpan) → SeatFacts z a p → SeatFacts z a (with_cached p x k)
sits_cached z a p x k s = record { seat = s.seat; few = s.few; stacks = s.stacks; registers = s.registers; scanned = s.scanned; cache = long_then p.local.cache x k _ s.cache; held = s.held }

-- What stays where no object is made and no value changes.

pub same_counts : (z : Arena) (a : ℕ) (v w : View) (made : List ℕ) → KeepsObjects v w → KnowsCounts z a v made → KnowsCounts z a w made
same_counts z a v w made o = counts_with z a v w made (λ g of. ap (λ (e : Ever). e.made g) o.0)

pub same_runs : (z : Arena) (a g : ℕ) (v w : View) → KeepsObjects v w → GoroutineRuns z v a g → GoroutineRuns z w a g
same_runs z a g v w o r = record { of = r.of; goes_on = ap (λ (e : Ever). e.ended g) o.0 ∙ r.goes_on }

-- what it holds still, where no object is made and no value changes
pub steady_on : (z : Arena) (a : ℕ) (v w : View) (m : Processor) → KeepsObjects v w → HoldsSwept a v → KeepsItsOwn a v w → ((p : ℕ) → lists m.poll.local.cache p ≡ true → w.holds a p ≡ true) → Steady z a v m → Steady z a w m
steady_on z a v w m o swept own held st = (
  same_counts z a v w m.made o st.0,
  record {
    stands = stands_kept z a v w m.poll o st.1.stands;
    knows = record {
      generation = st.1.knows.generation ∙ sym own.generation;
      caches = λ c k below is. cached_kept a v w swept own c k (held k.head (lists_it m.poll.local.cache _ k.head k is refl)) (st.1.knows.caches c k below is);
    };
  },
)
