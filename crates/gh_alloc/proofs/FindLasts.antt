-- What the search knows lasts, whatever others do. Of the heap and of its routines it is known what their laws say.
use Rattle.std.proofs.Common.{◌≡◌, ℕ, ◌+◌, ◌*◌, ◌/◌, ◌<◌, ◌≤◌, Bool, true, cond, refl, ap, arith, Option, sym, subst, ◌∙◌}
use Rattle.gh_alloc.proofs.Vocabulary.{Arena, At, CachedSpan, Caches, Carve, EachFactLasts, EachMoveKeepsItsOwn, EachRightFollows, End, FactsAt, Finding, FindStage, Good, head_for, is_locked, is_own_class, IsCached, Large, Lasts, NoneLeft, NoRoom, number_of_class, Others, owner_at, owner_in, OwnsLarge, pages_of, Pass, row_bit, Seeks, SizeClass, slot_of, slots_of, Small, Sought, span_at, SpanClass, SpanHead, Unlock, Unswept, View, WalksGoOn}
use Rattle.gh_cache.specs.Facts as searching
use Rattle.gh_cache.specs.Listing as slots
use Rattle.gh_central.specs.GiveFacts as giving
use Rattle.gh_central.specs.PassFacts as passing
use Rattle.gh_central.specs.UnsweptFacts as sweeping
use Rattle.gh_pages.specs.Facts as carving

-- the laws that the search's stand on
pub record Known : Type 0 where
  pub search : searching.SearchesByItsRights
  pub pass : passing.PassesByItsRights
  pub unswept : sweeping.SweepsByItsRights
  pub give : giving.GivesByItsRights
  pub carve : carving.CarvesByItsRights
  pub follow : EachRightFollows
  pub last : EachFactLasts
  pub walks : WalksGoOn
  pub own : EachMoveKeepsItsOwn
  pub some_page : (c : ℕ) → c < 25 → 1 ≤ pages_of c
  pub few_pages : (c : ℕ) → c < 25 → pages_of c ≤ 4

pub seeks-last : (z : Arena) (a : ℕ) (v w : View) (f : Finding) → Others z a v w → Seeks z a v f → Seeks z a w f
seeks-last z a v w f o x = record { seat = x.seat; few = x.few; number = x.number ∙ sym o.generation; wanted = x.wanted }

cached-lasts : (z : Arena) (a : ℕ) (v w : View) (c : SpanClass) (x : CachedSpan) → Good z v → Others z a v w → IsCached a v c x → IsCached a w c x
cached-lasts z a v w c x g o y = record {
  span = record {
    h = y.span.h;
    head = o.heads x.head y.span.h y.span.held y.span.head;
    class = y.span.class;
    noscan_is = y.span.noscan_is;
    held = o.holds x.head ∙ y.span.held;
  };
  few = y.few;
  taken = λ j lt. subst (λ (n : ℕ). row_bit w.alloc n ≡ 1) (slot j y.span.h.class y.span.class) (o.bits x.head j y.span.h y.span.head number (count j y.span.h.class y.span.class (let few = y.few in omega (arith, lt, few))) (subst (λ (n : ℕ). row_bit v.alloc n ≡ 1) (sym (slot j y.span.h.class y.span.class)) (y.taken j lt)));
} where
  -- the span that it holds is swept
  number : y.span.h.number ≡ v.generation
  number = (g.numbers x.head y.span.h y.span.head).owned (λ none. let is : owner_at v.page x.head ≡ y.span.h.owner = ap owner_in y.span.head in omega (arith, (g.owners a x.head).1 y.span.held, is, none))

  slot : (j : ℕ) (f : SizeClass) → f ≡ SizeClass.Small c.class → 1024 * x.head + j * cond (is_own_class f) (1024 * y.span.h.pages) (slot_of (number_of_class f) / 8) ≡ slots.slot_at (span_at c.class x) j
  slot j f e = rw (e) refl

  count : (j : ℕ) (f : SizeClass) → f ≡ SizeClass.Small c.class → j < slots_of c.class → j < cond (is_own_class f) 1 (slots_of (number_of_class f))
  count j f e lt = rw (e) lt

caches-last : (z : Arena) (a : ℕ) (v w : View) (wanted : Sought) (cached : Option CachedSpan) → Good z v → Others z a v w → Caches a v wanted cached → Caches a w wanted cached
caches-last z a v w wanted cached g o y = grind (arith, cached-lasts)

none-left-lasts : Known → (z : Arena) (a : ℕ) (sure : Bool) (v w : View) (f : Finding) (wanted : Sought) → Others z a v w → v.locked a ≡ true → NoneLeft z sure v f wanted → NoneLeft z sure w f wanted
none-left-lasts k z a sure v w f (Small c) o l x = λ is. (k.last z a v w o).full_before (head_for f) z.layout.pages l (x is)
none-left-lasts k z a sure v w f (Large pages noscan) o l x = x

large-lasts : (z : Arena) (a : ℕ) (v w : View) (f : Finding) (at : ℕ) → Others z a v w → OwnsLarge z a v f at → OwnsLarge z a w f at
large-lasts z a v w f at o x = record {
  pages = x.pages;
  noscan = x.noscan;
  wanted = x.wanted;
  claim = record {
    p = x.claim.p;
    h = x.claim.h;
    i = x.claim.i;
    held = o.holds x.claim.p ∙ x.claim.held;
    slot = record { span = o.spans x.claim.p x.claim.h x.claim.held x.claim.slot.span; inside = x.claim.slot.inside; size_is = x.claim.slot.size_is; at = x.claim.slot.at };
    clear = o.claims at (1024 * x.pages) x.claim;
  };
  class = x.class;
  noscan_is = x.noscan_is;
  first = x.first;
  head = subst (λ (n : ℕ). x.claim.h ≡ head x.noscan x.pages n) (sym o.generation) x.head;
} where
  head : Bool → (pages number : ℕ) → SpanHead
  head noscan pages number = record { class = SizeClass.Large; noscan = noscan; pages = pages; owner = a + 1; number = number }

stage-lasts : Known → (z : Arena) (a : ℕ) (sure : Bool) (v w : View) (f : Finding) (q : FindStage) → Others z a v w → v.locked a ≡ is_locked q → FactsAt z a sure v f q → FactsAt z a sure w f q
stage-lasts k z a sure v w f (Pass p) o l x = record { c = x.c; wanted = x.wanted; cached = x.cached; is = x.is; facts = k.pass.lasts z a sure v w p o l x.facts }
stage-lasts k z a sure v w f (Unswept u) o l x = record { c = x.c; wanted = x.wanted; cached = x.cached; first = x.first; is = x.is; facts = k.unswept.lasts z a v w u o l x.facts }
stage-lasts k z a sure v w f (Carve m) o l x = record { cached = x.cached; none = none-left-lasts k z a sure v w f f.wanted o l x.none; is = x.is; facts = k.carve.lasts z a v w m o l x.facts }
stage-lasts k z a sure v w f (Unlock (End (At y))) o l x = large-lasts z a v w f y o x
stage-lasts k z a sure v w f (Unlock (End NoRoom)) o l x = record {
  cached = x.cached;
  none = none-left-lasts k z a sure v w f f.wanted o l x.none;
  no_run = λ first le. let y = x.no_run first le in (y.0, y.1, (k.last z a v w o).taken (first + y.0) l y.2);
}
stage-lasts k z a sure v w f _ o l x = x

pub lasts : Known → Lasts
lasts k z a sure v w rest f g o l x = record {
  seeks = seeks-last z a v w f o x.seeks;
  caches = caches-last z a v w f.wanted f.cached g o x.caches;
  apart = x.apart;
  own_apart = x.own_apart;
  round = x.round;
  stage = stage-lasts k z a sure v w f f.stage o l x.stage;
}
