-- A new object's search has found a slot, and each of its steps.
use Rattle.std.proofs.Common.{◌≡◌, ◌≢◌, ℕ, ◌+◌, ◌*◌, ◌/◌, ◌<◌, Bool, true, false, List, length, get_or, Option, Some, None, refl, sym, ap, subst, ◌∙◌, arith}
use Rattle.gh_mutator_heap.proofs.Vocabulary.{after_search, Answer, answer_search, Arena, At, at_task, cache_span, cache_with, CachedSpan, CachesAll, cell_of, Claims, Does, effect, Finding, FindStage, FitsShape, FitsSlot, for_whom, Found, Good, GoroutineRuns, IsSought, KeepsItsOwn, KeepsObjects, Large, lists, makes, moved, Name, NoRoom, own_span, owned_by, owner_at, owner_in, page_of, PageWord, placing, Processor, ProcessorFacts, refuses_behind_wait, rest, search_wants, Searches, searches, SearchStage, Seeking, Shape, shape_at, ShapesAreGood, Shared, size_class_of, SizeClass, slot_words, slot_words_of, Sought, sought_by, span_class, SPAN_CLASSES, SpanClass, SpanHead, Steps, Sweeping, SweepLeaves, View, view, Wanted}
use Rattle.gh_alloc.specs.declared.find.After.TheVariants as After
use Rattle.gh_alloc.specs.Find as finder
use Rattle.gh_alloc.specs.FindFacts as find
use Rattle.gh_alloc.specs.PlaceFacts as place
use Rattle.gh_alloc.specs.Search as searcher
use Rattle.gh_alloc.specs.SearchFacts as search
use Rattle.gh_mutator_heap.proofs.Holding.Known.{holds_swept, HoldsSwept}
use Rattle.gh_mutator_heap.proofs.Holding.Lists.{index_of, listed_at}
use Rattle.gh_mutator_heap.proofs.Owning.Known.{Known}
use Rattle.gh_mutator_heap.proofs.Owning.NoRoom.{refused, waits-then}
use Rattle.gh_mutator_heap.proofs.Owning.Searching.{caches-then, goes-on, SeeksWith, seeks-with, held-then, none-large, rest-held, same_wants, steady-cached}
use Rattle.gh_mutator_heap.proofs.Owning.Steady.{same_runs, Steady}
use Rattle.gh_mutator_heap.proofs.Owning.Wanting.{WantsOf, fits-slot, some-slot, wants-of}

-- the slot that is found is one for the object
pub record IsFor (z : Arena) (a : ℕ) (w : View) (m : Processor) (x : Wanted) (y : ℕ) : Type 0 where
  pub claim : Claims z w a y x.slot
  pub class : claim.h.class ≡ size_class_of (shape_at z.shapes x.t).words
  pub noscan : claim.h.noscan ≡ (shape_at z.shapes x.t).noscan
  pub own : place.IsItsSpan (own_span m.poll.seat m.poll.local.view.generation x.sought) claim.p claim.h y
  pub apart : (p : ℕ) → find.own_found x.sought y ≡ Some p → (claim.h.class ≡ SizeClass.Large) × (claim.p ≡ p)

abbrev pub sized : (z : Arena) (a : ℕ) (w : View) (y n l : ℕ) (c : Claims z w a y n) → n ≡ l → Claims z w a y l
sized z a w y n l c e = record {
  p = c.p;
  h = c.h;
  i = c.i;
  held = c.held;
  slot = record { span = c.slot.span; inside = c.slot.inside; size_is = sym e ∙ c.slot.size_is; at = c.slot.at ∙ ap (λ (k : ℕ). 1024 * c.p + c.i * k) e };
  clear = c.clear;
}

-- the head of a large object's span
abbrev head-of : Bool → (pages owner number : ℕ) → SpanHead
head-of noscan pages owner number = record { class = SizeClass.Large; noscan = noscan; pages = pages; owner = owner; number = number }

module _ (z : Arena) (a : ℕ) (w : View) (m : Processor) (f : Finding) (y : ℕ) where
  is-for : (shape : Shape) (g d t : ℕ) (j : Option CachedSpan) (c : SizeClass) → shape ≡ shape_at z.shapes t → size_class_of shape.words ≡ c → WantsOf shape c → m.poll.seat ≡ a → m.poll.local.view.generation ≡ w.generation → f.wanted ≡ sought_by c shape.noscan (slot_words shape.words) →
      find.SlotIsFound z a w f (sought_by c shape.noscan (slot_words shape.words)) j y → IsFor z a w m (record { g = g; d = d; t = t; slot = slot_words shape.words; sought = sought_by c shape.noscan (slot_words shape.words) }) y
  is-for shape g d t (Some k) (SizeClass.Small c) same e wants seat number sought found = record {
    claim = sized z a w y (slot_words_of c) (slot_words shape.words) found.claim (sym wants.1);
    class = found.class ∙ sym e ∙ ap (λ (x : Shape). size_class_of x.words) same;
    noscan = found.noscan_is ∙ ap (λ (x : Shape). x.noscan) same;
    own = tt;
    apart = λ p q. absurd (cc);
  }
  is-for shape g d t None (SizeClass.Small c) same e wants seat number sought found = absurd found
  is-for shape g d t j SizeClass.Large same e wants seat number sought found =
      let one : Large (slot_words shape.words / 1024) shape.noscan ≡ Large found.pages found.noscan = sym sought ∙ found.wanted in
      let pages : slot_words shape.words / 1024 ≡ found.pages = cc in
      let noscan : shape.noscan ≡ found.noscan = cc in
      let own : head-of found.noscan found.pages (a + 1) w.generation ≡ head-of shape.noscan (slot_words shape.words / 1024) (a + 1) w.generation = ap (λ (b : Bool). head-of b found.pages (a + 1) w.generation) (sym noscan) ∙ ap (λ (n : ℕ). head-of shape.noscan n (a + 1) w.generation) (sym pages) in
      record {
        claim = sized z a w y (1024 * found.pages) (slot_words shape.words) found.claim (ap (λ (n : ℕ). 1024 * n) (sym pages) ∙ sym wants.0);
        class = found.class ∙ sym e ∙ ap (λ (x : Shape). size_class_of x.words) same;
        noscan = found.noscan_is ∙ sym noscan ∙ ap (λ (x : Shape). x.noscan) same;
        own = (found.first, ap (owned_by 0) (found.head ∙ own) ∙ ap (λ (n : ℕ). head-of shape.noscan (slot_words shape.words / 1024) 0 n) (sym number), found.class);
        apart = λ p q. (found.class, found.first ∙ at-some (y / 1024) p q);
      } where
        at-some : (n p : ℕ) → Some n ≡ Some p → n ≡ p
        at-some n p q = cc

-- a cached span is none of a large object
small-listed : (a : ℕ) (w : View) (cache : List (Option CachedSpan)) (p : ℕ) (h : SpanHead) → CachesAll a w cache → length cache ≡ SPAN_CLASSES → page_of (w.page p) ≡ PageWord.Head h → h.class ≡ SizeClass.Large → lists cache p ≡ false
small-listed a w cache p h all long head large = go (lists cache p) refl where
  none : lists cache p ≡ true → ⊥
  none e =
      let l = listed_at cache p e in
      let c : SpanClass = span_class l.i in
      let low : c.class < 25 = omega (arith, l.below, long) in
      let k = all c l.k low (ap (λ (j : ℕ). get_or cache j None) (index_of l.i) ∙ l.at) in
      let at : page_of (w.page p) ≡ PageWord.Head k.span.h = subst (λ (q : ℕ). page_of (w.page q) ≡ PageWord.Head k.span.h) l.head k.span.head in
      let same : h ≡ k.span.h = cc (head, at) in
      let class : SizeClass.Large ≡ SizeClass.Small c.class = sym large ∙ ap (λ (x : SpanHead). x.class) same ∙ k.span.class in
      absurd (cc)

  go : (b : Bool) → lists cache p ≡ b → lists cache p ≡ false
  go true e = absurd (none e)
  go false e = e

module _ (k : Known) (z : Arena) (a : ℕ) (s : Shared) (m : Processor) (x : Wanted) (q : Seeking) where
  abbrev now : View
  now = view s

  abbrev searching : Bool → Processor
  searching waited = at_task m (searches x waited q)

  abbrev found : ℕ
  found = s.words (cell_of (searcher.asks z.layout q))

  abbrev next : Seeking
  next = searcher.goes z.layout q found

  abbrev caching : Processor
  caching = cache_span m x.sought next.find.cached

  -- it is made there
  finds : (t : Shared) (y : ℕ) → ShapesAreGood z.shapes → Steady z a now m → Searches z a now m x q None → KeepsObjects now (view t) → HoldsSwept a now → KeepsItsOwn a now (view t) → find.HasFound z a (view t) (rest m x) next.find y →
      ProcessorFacts z a (view t) (at_task caching (makes x (placing z.shapes caching x y))) None
  finds t y sg st r o swept own h = record {
    counts = steady.0;
    knows = steady.1;
    right = record { locked = h.right.locked; holds = λ p. h.right.holds p ∙ held p; laying = h.right.laying; freeing = h.right.freeing };
    task = record {
      facts = k.place.opens z a (view t) (for_whom x) (placing z.shapes caching x y) unmade refl;
      register = r.wants.register;
      of = r.wants.runs.of;
      span = refl;
      apart = λ p e. small-listed a (view t) caching.poll.local.cache p here.claim.h steady.1.knows.caches steady.1.stands.sits.cache (subst (λ (q : ℕ). page_of ((view t).page q) ≡ PageWord.Head here.claim.h) (here.apart p e).1 here.claim.slot.span.head) (here.apart p e).0;
      named = refl;
    };
  } where
    wanted : next.find.wanted ≡ x.sought
    wanted = search_wants z.layout q found ∙ r.wanted

    before : SeeksWith z a now q.find
    before = seeks-with z a now (rest m x) q.find q.stage r.facts

    sought : IsSought x.sought
    sought = subst IsSought r.wanted before.seeks.wanted

    caches : find.Caches a (view t) x.sought next.find.cached
    caches = subst (λ (y : Sought). find.Caches a (view t) y next.find.cached) wanted h.caches

    others : (p : ℕ) → rest m x p ≡ true → (view t).holds a p ≡ true
    others p e = h.right.holds p ∙ rest-held (find.own_found next.find.wanted y) (find.cached_head next.find.cached) (rest m x) p e

    steady : Steady z a (view t) caching
    steady = steady-cached z a now (view t) m x.sought next.find.cached o own.generation (caches-then a now (view t) m x next.find.cached swept own others st.1.stands.sits.cache sought caches st.1.knows.caches) st

    held : (p : ℕ) → find.with_span (find.own_found next.find.wanted y) (find.with_span (find.cached_head next.find.cached) (rest m x)) p ≡ find.with_span (find.own_found x.sought y) (lists (cache_with m.poll.local.cache x.sought next.find.cached)) p
    held p = ap (λ (w : Sought). find.with_span (find.own_found w y) (find.with_span (find.cached_head next.find.cached) (rest m x)) p) wanted
        ∙ held-then m x.sought next.find.cached (find.own_found x.sought y) p st.1.stands.sits.cache sought (none-large a (view t) x.sought next.find.cached caches)

    shape : Shape
    shape = shape_at z.shapes x.t

    fit : FitsShape shape
    fit = sg.fit x.t r.wants.type

    here : IsFor z a (view t) m x y
    here = subst (λ (w : Wanted). IsFor z a (view t) m w y) (sym r.wants.is)
        (is-for z a (view t) m next.find y shape x.g x.d x.t next.find.cached (size_class_of shape.words) refl refl (wants-of k.wants shape fit) st.1.stands.sits.seat (st.1.knows.generation ∙ sym own.generation) (wanted ∙ ap (λ (w : Wanted). w.sought) r.wants.is)
        (subst (λ (w : Sought). find.SlotIsFound z a (view t) next.find w next.find.cached y) (wanted ∙ ap (λ (w : Wanted). w.sought) r.wants.is) h.found))

    words : x.slot ≡ slot_words shape.words
    words = ap (λ (w : Wanted). w.slot) r.wants.is

    runs : GoroutineRuns z (view t) a x.g
    runs = same_runs z a x.g now (view t) o r.wants.runs

    unmade : place.Unmade z a (view t) (for_whom x) (placing z.shapes caching x y)
    unmade = record {
      places = record {
        shape = refl;
        slot = words;
        fits = subst (λ (n : ℕ). FitsSlot shape n) (sym words) (fits-slot k.holds shape fit (λ i. sg.narrow x.t i r.wants.type));
        some = rw (words) (some-slot k.wants shape fit);
        register = r.wants.register;
        type = r.wants.type;
      };
      runs = runs;
      few = (same_wants z a now (view t) x o r.wants).few;
      name = ap (λ (n : ℕ). named x.g n) (steady.0.each x.g runs.of);
      claim = here.claim;
      class = here.class;
      noscan = here.noscan;
      own = here.own;
    } where
      named : (g n : ℕ) → Name
      named g n = record { g = g; k = n }

  -- a step that ends short of finding none
  does : (t : Shared) (waited : Bool) (out : Option Found) → searcher.gives z.layout q found ≡ out → refuses_behind_wait waited out ≡ false → answer_search waited out ≡ None → KeepsObjects now (view t) → ProcessorFacts z a (view t) (after_search z.shapes caching x waited next out) None → Does z a s t (searching waited) None found
  does t waited out e some silent o fine = grind arith

  short : (waited : Bool) (t : Shared) (out : Option Found) → searcher.gives z.layout q found ≡ out → ShapesAreGood z.shapes → Steady z a now m → Searches z a now m x q None → HoldsSwept a now → KeepsItsOwn a now (view t) → KeepsObjects now (view t) → search.Comes z a (view t) (rest m x) out next → Does z a s t (searching waited) None found
  short true t None e sg st r swept own o c = does t true None e refl refl o (goes-on z a s m x q t true st r o swept own c)
  short false t None e sg st r swept own o c = does t false None e refl refl o (goes-on z a s m x q t false st r o swept own c)
  short true t (Some (At y)) e sg st r swept own o c = does t true (Some (At y)) e refl refl o (finds t y sg st r o swept own c)
  short false t (Some (At y)) e sg st r swept own o c = does t false (Some (At y)) e refl refl o (finds t y sg st r o swept own c)
  short waited t (Some NoRoom) e sg st r swept own o c = absurd c

  steps : (waited : Bool) → ShapesAreGood z.shapes → Good z now → searcher.sweep_in q ≡ None → Steady z a now m → search.Has a now (rest m x) q → Searches z a now m x q None → searcher.refuses q ≡ false → Steps z a s (searcher.asks z.layout q) (λ t. Does z a s t (searching waited) None found)
  steps waited sg g none st has r on =
      let l = (k.search.own_step z a s (rest m x) q g has r.facts on none) in
      record { move = l.move; may = l.may; words_are = l.words_are; after = short waited (moved z a s l.move) (searcher.gives z.layout q found) refl sg st r (holds_swept z a now g) (k.own z a s l.move g l.may) l.after.0 l.after.1 }

  -- what a sweep leaves of the spans that the seat holds
  keeps_own : (t : Shared) → Good z now → SweepLeaves now (view t) → KeepsItsOwn a now (view t)
  keeps_own t g o = record { heads = λ p h held still head. o.owned p h (owned p h held head) head; bits = o.leaves.bits; generation = o.leaves.generation } where
    owned : (p : ℕ) (h : SpanHead) → now.holds a p ≡ true → page_of (now.page p) ≡ PageWord.Head h → h.owner ≢ 0
    owned p h held head none =
        let named : owner_at now.page p ≡ a + 1 = (g.owners a p).1 held in
        let is : owner_at now.page p ≡ h.owner = ap owner_in head in
        absurd (omega (arith, named, is, none))

  -- a step of the sweep that the search runs
  pub sweeps : (t : Shared) (waited : Bool) (sw : Sweeping) → ShapesAreGood z.shapes → Good z now → Good z (view t) → Steady z a now m → search.Has a now (rest m x) q → Searches z a now m x q None → searcher.sweep_in q ≡ Some sw → SweepLeaves now (view t) → t.words ≡ effect s.words (searcher.asks z.layout q) → Does z a s t (searching waited) None found
  sweeps t waited sw sg g then st has r is o words =
      let l = k.search.sweep_step z a s t (rest m x) q sw g then has r.facts is o words in
      short waited t (searcher.gives z.layout q found) refl sg st r (holds_swept z a now g) (keeps_own t g o) l.0 l.1

module _ (k : Known) (z : Arena) (a : ℕ) (s : Shared) (m : Processor) (x : Wanted) (waited : Bool) where
  abbrev Own : Bool → Seeking → Type 0
  Own again y = Steps z a s (searcher.asks z.layout y) (λ t. Does z a s t (at_task m (searches x again y)) None (s.words (cell_of (searcher.asks z.layout y))))

  module _ (q : Seeking) (sg : ShapesAreGood z.shapes) (g : Good z (view s)) (rests : searcher.sweep_in q ≡ None) (st : Steady z a (view s) m) where
    -- the search at its last step
    abbrev last : Seeking
    last = record { find = finder.at_stage q.find (FindStage.Unlock (After.End NoRoom)); stage = SearchStage.Second }

    ends-at : (again : Bool) → search.Has a (view s) (rest m x) last → Searches z a (view s) m x last None → search.FindsNone z (view s) last.find → Own again last
    ends-at true has r none = refused k z a s m x q.find g st has r none
    ends-at false has r none = waits-then k z a s m x q.find g st has r none

    at-last : (f : FindStage) (y : SearchStage) → q.find.stage ≡ f → q.stage ≡ y → q ≡ record { find = finder.at_stage q.find f; stage = y }
    at-last f y e h = grind arith

    search-step : search.Has a (view s) (rest m x) q → Searches z a (view s) m x q None → Own waited q
    search-step has r = go (searcher.refuses q) refl where
      go : (b : Bool) → searcher.refuses q ≡ b → Own waited q
      go false e = steps k z a s m x q waited sg g rests st has r e
      go true e =
          let no = k.search.none z a (view s) (rest m x) q r.facts e in
          let is : q ≡ last = at-last (FindStage.Unlock (After.End NoRoom)) SearchStage.Second no.unlocks no.stage in
          subst (Own waited) (sym is) (ends-at waited (subst (λ (y : Seeking). search.Has a (view s) (rest m x) y) is has) (subst (λ (y : Seeking). Searches z a (view s) m x y None) is r) (subst (λ (y : Seeking). search.FindsNone z (view s) y.find) is no.none))

pub search-steps : Known → (z : Arena) (a : ℕ) (s : Shared) (m : Processor) (pending : Option Answer) (x : Wanted) (waited : Bool) (q : Seeking) → ShapesAreGood z.shapes → Good z (view s) → searcher.sweep_in q ≡ None → ProcessorFacts z a (view s) (at_task m (searches x waited q)) pending →
    Steps z a s (searcher.asks z.layout q) (λ t. Does z a s t (at_task m (searches x waited q)) pending (s.words (cell_of (searcher.asks z.layout q))))
search-steps k z a s m pending x waited q sg g rests fine = subst (λ (y : Option Answer). Steps z a s (searcher.asks z.layout q) (λ t. Does z a s t (at_task m (searches x waited q)) y (s.words (cell_of (searcher.asks z.layout q))))) (sym fine.task.unanswered)
    (search-step k z a s m x waited q sg g rests (fine.counts, fine.knows) fine.right (record { wants = fine.task.wants; wanted = fine.task.wanted; cached = fine.task.cached; facts = fine.task.facts; unanswered = refl }))

pub sweep-steps : Known → (z : Arena) (a : ℕ) (s t : Shared) (m : Processor) (pending : Option Answer) (x : Wanted) (waited : Bool) (q : Seeking) (sw : Sweeping) → ShapesAreGood z.shapes → Good z (view s) → Good z (view t) → ProcessorFacts z a (view s) (at_task m (searches x waited q)) pending →
    searcher.sweep_in q ≡ Some sw → SweepLeaves (view s) (view t) → t.words ≡ effect s.words (searcher.asks z.layout q) → Does z a s t (at_task m (searches x waited q)) pending (s.words (cell_of (searcher.asks z.layout q)))
sweep-steps k z a s t m pending x waited q sw sg g then fine is o words = subst (λ (y : Option Answer). Does z a s t (at_task m (searches x waited q)) y (s.words (cell_of (searcher.asks z.layout q)))) (sym fine.task.unanswered)
    (sweeps k z a s m x q t waited sw sg g then (fine.counts, fine.knows) fine.right (record { wants = fine.task.wants; wanted = fine.task.wanted; cached = fine.task.cached; facts = fine.task.facts; unanswered = refl }) is o words)
