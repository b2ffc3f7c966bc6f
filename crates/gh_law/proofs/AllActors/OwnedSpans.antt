-- A processor holds one span of each span class at the most: what it has cached stands by span class, and beside that it holds at most the span that it has just found, which is of the class that it looks for.
use Rattle.std.proofs.Common.{◌≡◌, ◌≢◌, ◌⊎◌, inl, inr, ℕ, zero, suc, ◌+◌, ◌-◌, ◌/◌, ◌<◌, ◌≤◌, ◌==◌, ◌||◌, Bool, true, false, refl, sym, ap, subst, ◌∙◌, arith, List, [], ◌∷◌, length, drop, Option, Some, None, slice_index_or, slice_set}
use Rattle.std.proofs.lemmas.Bool.{eqb-true}
use Rattle.gh_law.proofs.Vocabulary.{Answer, Arena, arena, cache_with, cached_for, cached_in, CachesAll, CachesFrom, cases_lt, Cell, Entry, FactsAt, give_held_at, GiveStageFacts, HasState, Head, Heap, held_at, held_new, KnowsAt, KnowsNew, KnowsSpans, leave_held_at, LeaveStage, LeaveStageFacts, lists, Makes, NewFacts, NewStage, no_page, Op, own_span, owner_in, OwnersAreProcessors, OwnsOneOfEach, page_of, Placing, poll_held_at, PollFacts, Polling, PollStageFacts, Processor, processor_at, ProcessorFacts, rest, Rests, Searches, Seeking, Setup, SizeClass, span_index, SpanHead, Task, View, view, WaitFacts, waits_held, waits_held_at, WaitStage, WaitStageFacts, Wanted, words}
use Rattle.gh_base.specs.Reading.{read_replicate}
use Rattle.gh_class.specs.declared.class.SpanClass.{SpanClass}
use Rattle.gh_class.specs.declared.class.TheConstants.{SPAN_CLASSES}
use Rattle.gh_alloc.specs.declared.find.FindStage.{FindStage}
use Rattle.gh_alloc.specs.declared.place.PlaceStage.{PlaceStage}
use Rattle.gh_alloc.specs.declared.search.SearchStage.{SearchStage}
use Rattle.gh_alloc.specs.declared.sought.CachedSpan.{CachedSpan}
use Rattle.gh_alloc.specs.declared.sought.Sought.{Sought}
use Rattle.gh_alloc.specs.declared.sought.Sought.TheVariants.{Small, Large}
use Rattle.gh_alloc.specs.Find.{Finding}
use Rattle.gh_alloc.specs.FindFacts as finding
use Rattle.gh_alloc.specs.FindFacts.{cached_head, IsCached, own_found, with_span}
use Rattle.gh_alloc.specs.FindSound.{IsSought}
use Rattle.gh_alloc.specs.PlaceFacts as place
use Rattle.gh_alloc.specs.SearchFacts as search
use Rattle.gh_poll.specs.declared.give.GiveStage.{GiveStage}
use Rattle.gh_poll.specs.declared.poll.PollStage.{PollStage}
use Rattle.gh_poll.specs.Give.{Giving, none_cached, span_class}
use Rattle.gh_poll.specs.Wait.{Waiting, waiting}

-- What a cache lists.

record Listed (cache : List (Option CachedSpan)) (from p : ℕ) : Type 0 where
  i : ℕ
  k : CachedSpan
  behind : from ≤ i
  there : i < length cache
  here : slice_index_or cache i None ≡ Some k
  head : k.head ≡ p

further : (o : Option CachedSpan) (ks : List (Option CachedSpan)) (from p : ℕ) → Listed ks from p → Listed (o ∷ ks) (suc from) p
further o ks from p x = let le = x.behind in let lt = x.there in record { i = suc x.i; k = x.k; behind = omega (arith, le); there = omega (arith, lt); here = x.here; head = x.head }

earlier : (cache : List (Option CachedSpan)) (from p : ℕ) → Listed cache (suc from) p → Listed cache from p
earlier cache from p x = let le = x.behind in record { i = x.i; k = x.k; behind = omega (arith, le); there = x.there; here = x.here; head = x.head }

first_or : (k : CachedSpan) (ks : List (Option CachedSpan)) (p : ℕ) (b : Bool) → (k.head == p) ≡ b → (lists ks p ≡ true → Listed ks 0 p) → (b || lists ks p) ≡ true → Listed (Some k ∷ ks) 0 p
first_or k ks p true is rest e = record { i = 0; k = k; behind = omega arith; there = omega arith; here = refl; head = eqb-true _ _ is }
first_or k ks p false is rest e = earlier (Some k ∷ ks) 0 p (further (Some k) ks 0 p (rest e))

listed : (cache : List (Option CachedSpan)) (p : ℕ) → lists cache p ≡ true → Listed cache 0 p
listed [] p e = absurd (cc)
listed (None ∷ ks) p e = earlier (None ∷ ks) 0 p (further None ks 0 p (listed ks p e))
listed (Some k ∷ ks) p e = first_or k ks p (k.head == p) refl (listed ks p) e

listed_from : (from : ℕ) (cache : List (Option CachedSpan)) (p : ℕ) → lists (drop from cache) p ≡ true → Listed cache from p
listed_from zero cache p e = listed cache p e
listed_from (suc n) [] p e = absurd (cc)
listed_from (suc n) (o ∷ ks) p e = further o ks n p (listed_from n ks p e)

-- without one span it lists no more
fewer : (cache : List (Option CachedSpan)) (i p : ℕ) → lists (slice_set cache i None) p ≡ true → lists cache p ≡ true
fewer [] i p e = e
fewer (None ∷ ks) zero p e = e
fewer (Some k ∷ ks) zero p e = or-right (k.head == p) (lists ks p) e where
  or-right : (b c : Bool) → c ≡ true → (b || c) ≡ true
  or-right true c x = refl
  or-right false c x = x
fewer (None ∷ ks) (suc i) p e = fewer ks i p e
fewer (Some k ∷ ks) (suc i) p e = either (k.head == p) (lists (slice_set ks i None) p) (lists ks p) (fewer ks i p) e where
  either : (b c d : Bool) → (c ≡ true → d ≡ true) → (b || c) ≡ true → (b || d) ≡ true
  either true c d f x = refl
  either false c d f x = f x

-- a span class has its number
of_number : (i : ℕ) → i < 50 → span_index (span_class i) ≡ i
of_number i lt = grind arith

-- where the span of a span class begins, by what is cached; and that of a large object
abbrev by_class : List (Option CachedSpan) → (large : Option ℕ) → SizeClass → Bool → Option ℕ
by_class cache large (SizeClass.Small c) noscan = cached_head (cached_in cache (Small (record { class = c; noscan = noscan })))
by_class cache large SizeClass.Large noscan = large

-- one more, or one of the rest
with_cases : (o : Option ℕ) (rest : ℕ → Bool) (p : ℕ) → with_span o rest p ≡ true → (o ≡ Some p) ⊎ (rest p ≡ true)
with_cases o rest p e = grind arith

module _ (z : Arena) (a : ℕ) (v : View) where
  -- each of these spans stands where its span class says
  abbrev pub Are : (held : ℕ → Bool) → (at : SizeClass → Bool → Option ℕ) → Type 0
  Are held at = (p : ℕ) (h : SpanHead) → held p ≡ true → page_of (v.page p) ≡ Head h → at h.class h.noscan ≡ Some p

  pub record Owns (held : ℕ → Bool) : Type 0 where
    pub at : SizeClass → Bool → Option ℕ
    pub each : Are held at

  none : Owns no_page
  none = record { at = λ c n. None; each = λ p h held is. absurd (cc) }

  of_cached : (cache : List (Option CachedSpan)) (large : Option ℕ) (c : SpanClass) (k : CachedSpan) (p : ℕ) (h : SpanHead) → cached_in cache (Small c) ≡ Some k → IsCached a v c k → k.head ≡ p → page_of (v.page p) ≡ Head h → by_class cache large h.class h.noscan ≡ Some p
  of_cached cache large c k p h here is head there = grind arith

  of_list : (cache : List (Option CachedSpan)) (large : Option ℕ) (from : ℕ) → length cache ≡ SPAN_CLASSES → CachesFrom a v cache from → Are (lists (drop from cache)) (by_class cache large)
  of_list cache large from long caches p h held there =
      let x = listed_from from cache p held in
      let lt = x.there in
      let among : x.i < 50 = omega (arith, lt, long) in
      let here : cached_in cache (Small (span_class x.i)) ≡ Some x.k = ap (λ (n : ℕ). slice_index_or cache n None) (of_number x.i among) ∙ x.here in
      of_cached cache large (span_class x.i) x.k p h here (caches x.i x.k x.behind among x.here) x.head there

  from_all : (cache : List (Option CachedSpan)) → CachesAll a v cache → CachesFrom a v cache 0
  from_all cache all i k le lt here = all (span_class i) k (omega (arith, lt)) (ap (λ (n : ℕ). slice_index_or cache n None) (of_number i lt) ∙ here)

  from_none : (cache : List (Option CachedSpan)) → cache ≡ none_cached → CachesFrom a v cache 0
  from_none cache none i k le lt here = absurd (let no : None ≡ Some k = sym (ap (λ (c : List (Option CachedSpan)). slice_index_or c i None) none ∙ read_replicate SPAN_CLASSES i None) ∙ here in cc)

  of_all : (cache : List (Option CachedSpan)) (large : Option ℕ) → length cache ≡ SPAN_CLASSES → CachesAll a v cache → Are (lists cache) (by_class cache large)
  of_all cache large long all = of_list cache large 0 long (from_all cache all)

  listed_own : (cache : List (Option CachedSpan)) (from : ℕ) → length cache ≡ SPAN_CLASSES → CachesFrom a v cache from → Owns (lists (drop from cache))
  listed_own cache from long caches = record { at = by_class cache None; each = of_list cache None from long caches }

  give_own : (g : Giving) (s : GiveStage) → length g.cache ≡ SPAN_CLASSES → GiveStageFacts z a v g s → Owns (give_held_at g.cache s)
  give_own g GiveStage.Lock long f = listed_own g.cache 0 long f
  give_own g (GiveStage.GiveSpan class s) long f = listed_own g.cache class long f.caches
  give_own g GiveStage.Unlock long f = none
  give_own g (GiveStage.GiveBuffer b) long f = listed_own g.cache 0 long (from_none g.cache f.0)
  give_own g GiveStage.Ended long f = listed_own g.cache 0 long (from_none g.cache f.0)

  knows_own : (p : Polling) → length p.local.cache ≡ SPAN_CLASSES → KnowsSpans a v p → Owns (lists p.local.cache)
  knows_own p long k = listed_own p.local.cache 0 long (from_all p.local.cache k.caches)

  rests_own : (p : Polling) → Rests z a v p → Owns (lists p.local.cache)
  rests_own p r = knows_own p r.stands.sits.cache r.knows

  poll_own : (p : Polling) (s : PollStage) → length p.local.cache ≡ SPAN_CLASSES → PollStageFacts z a v p s → Owns (poll_held_at p.local.cache s)
  poll_own p (PollStage.Giving g stops) long f = give_own g g.stage f.room f.stage_is
  poll_own p (PollStage.Resuming r) long f = listed_own p.local.cache 0 long (from_none p.local.cache f.no_span)
  poll_own p (PollStage.Marking g m) long f = knows_own p long f.0
  poll_own p (PollStage.FindRoom r) long f = knows_own p long f.0
  poll_own p _ long f = knows_own p long f

  polls_own : (p : Polling) → PollFacts z a v p → Owns (poll_held_at p.local.cache p.stage)
  polls_own p f = grind (arith, poll_own)

  -- While an object is made.

  module _ (m : Processor) (w : Wanted) (rests : Rests z a v m.poll) where
    abbrev cache : List (Option CachedSpan)
    cache = m.poll.local.cache

    of_rest : (s : Sought) (large : Option ℕ) (p : ℕ) (h : SpanHead) → lists (cache_with cache s None) p ≡ true → page_of (v.page p) ≡ Head h → by_class cache large h.class h.noscan ≡ Some p
    of_rest s large p h held there = grind (arith, fewer, of_all)

    -- the span that a search has cached is the processor's
    of_found : (s : Sought) (o large : Option ℕ) (c : Option CachedSpan) (p : ℕ) (h : SpanHead) → IsSought s → c ≡ cached_in cache s → cached_head c ≡ Some p → page_of (v.page p) ≡ Head h → by_class cache large h.class h.noscan ≡ Some p
    of_found s o large None p h sought is head there = absurd (cc)
    of_found (Large pages noscan) o large (Some k) p h sought is head there = absurd (let no : Some k ≡ None = is in cc)
    of_found (Small c) o large (Some k) p h sought is head there = let one : k.head ≡ p = cc in of_cached cache large c k p h (sym is) (rests.knows.caches c k sought (sym is)) one there

    module _ (sure : Bool) (f : Finding) (wanted : f.wanted ≡ w.sought) (cached : f.cached ≡ cached_for m w.sought) (facts : finding.Facts z a sure v (rest m w) f) where
      -- a large object's
      of_own : (s : FindStage) (p : ℕ) (h : SpanHead) → finding.FactsAt z a sure v f s → finding.own s ≡ Some p → page_of (v.page p) ≡ Head h → h.class ≡ SizeClass.Large
      of_own s p h o is there = grind arith

      finds_own : Owns (finding.held f (rest m w))
      finds_own = record { at = by_class cache (finding.own f.stage); each = each } where
        large : (p : ℕ) (h : SpanHead) → finding.own f.stage ≡ Some p → h.class ≡ SizeClass.Large → by_class cache (finding.own f.stage) h.class h.noscan ≡ Some p
        large p h is class = ap (λ (c : SizeClass). by_class cache (finding.own f.stage) c h.noscan) class ∙ is

        each : (p : ℕ) (h : SpanHead) → finding.held f (rest m w) p ≡ true → page_of (v.page p) ≡ Head h → by_class cache (finding.own f.stage) h.class h.noscan ≡ Some p
        each p h held there = elim (with_cases (finding.own f.stage) (with_span (cached_head f.cached) (rest m w)) p held) [
          | inl is ↦ large p h is (of_own f.stage p h facts.stage is there)
          | inr beside ↦ elim (with_cases (cached_head f.cached) (rest m w) p beside) [
            | inl is ↦ of_found w.sought None (finding.own f.stage) f.cached p h (subst IsSought wanted facts.seeks.wanted) cached is there
            | inr left ↦ of_rest w.sought (finding.own f.stage) p h left there
          ]
        ]

    searches_own : (q : Seeking) (pending : Option Answer) → Searches z a v m w q pending → Owns (search.held q.find q.stage (rest m w))
    searches_own q pending s = go q.stage s.facts where
      go : (p : SearchStage) → search.FactsAt z a v (rest m w) q.find p → Owns (search.held q.find p (rest m w))
      go SearchStage.First f = finds_own false q.find s.wanted s.cached f.facts
      go (SearchStage.Free r) f = record { at = by_class cache None; each = λ p h held there. of_rest w.sought None p h held there }
      go SearchStage.Second f = finds_own true q.find s.wanted s.cached f.facts

    -- In its slot.

    keeps : (s : PlaceStage) (span : Option SpanHead) (page : ℕ) (held : ℕ → Bool) (p : ℕ) → place.held_by s span page held p ≡ true → held p ≡ true
    keeps s span page held p e = grind arith

    -- with a large object's span
    abbrev with_own : Placing → ℕ → Bool
    with_own x = with_span (own_found w.sought x.at) (lists cache)

    makes_own : (x : Placing) (pending : Option Answer) → Makes z a v m w x pending → Owns (place.held_in x (with_span (own_found w.sought x.at) (lists cache)))
    makes_own x pending k = record { at = by_class cache (own_found w.sought x.at); each = each } where
      large : (s : Sought) (p : ℕ) (h : SpanHead) → x.span ≡ own_span m.poll.seat m.poll.local.view.generation s → own_found s x.at ≡ Some p → place.held_in x (with_own x) p ≡ true → page_of (v.page p) ≡ Head h → h.class ≡ SizeClass.Large
      large s p h span is e there = grind arith

      each : (p : ℕ) (h : SpanHead) → place.held_in x (with_own x) p ≡ true → page_of (v.page p) ≡ Head h → by_class cache (own_found w.sought x.at) h.class h.noscan ≡ Some p
      each p h held there = elim (with_cases (own_found w.sought x.at) (lists cache) p (keeps x.stage x.span (x.at / 1024) (with_own x) p held)) [
        | inl is ↦ ap (λ (c : SizeClass). by_class cache (own_found w.sought x.at) c h.noscan) (large w.sought p h k.span is held there) ∙ is
        | inr left ↦ of_all cache (own_found w.sought x.at) rests.stands.sits.cache rests.knows.caches p h left there
      ]

  -- At each task.

  waits_own : (x : Waiting) → WaitFacts z a v x → Owns (waits_held x)
  waits_own x f = go x.wait.stage f where
    go : (s : WaitStage) → WaitStageFacts z a v x.poll s → Owns (waits_held_at x.poll s)
    go WaitStage.Polling f = polls_own x.poll f
    go _ f = rests_own x.poll f

  leaves_own : (s : LeaveStage) → LeaveStageFacts z a v s → Owns (leave_held_at s)
  leaves_own s f = grind (arith, give_own, none)

  module _ (m : Processor) (pending : Option Answer) where
    new_own : (w : Wanted) (s : NewStage) → KnowsNew z a v m.poll s → NewFacts z a v m w pending s → Owns (held_new m w s)
    new_own w (NewStage.Search waited q) k f = searches_own m w k q pending f
    new_own w (NewStage.Wait x) k f = waits_own (waiting x m.poll) k
    new_own w (NewStage.Place x) k f = makes_own m w k x pending f
    new_own w (NewStage.Want n) k f = rests_own m.poll k
    new_own w (NewStage.Assist n x) k f = rests_own m.poll k

    task_own : (t : Task) → KnowsAt z a v m.poll t → FactsAt z a v m pending t → Owns (held_at m t)
    task_own Task.Left k f = none
    task_own (Task.New x) k f = new_own x.wanted x.stage k f
    task_own (Task.Gc g x) k f = waits_own (waiting x m.poll) k
    task_own Task.Poll k f = polls_own m.poll k
    task_own (Task.Leave x) k f = leaves_own x.stage k.stage_is
    task_own _ k f = rests_own m.poll k

  pub held_by_class : (m : Processor) (pending : Option Answer) → ProcessorFacts z a v m pending → Owns (v.holds a)
  held_by_class m pending fine =
      let o = task_own m pending m.task fine.knows fine.task in
      record { at = o.at; each = λ p h held there. o.each p h (sym (fine.right.holds p) ∙ held) there }

-- After a list.
module _ (setup : Setup) (es : List (Entry Op)) (has : HasState setup es) where
  abbrev z : Arena
  z = arena setup

  abbrev h : Heap
  h = has.state.heap

  -- who owns a span holds it
  holder : (p a : ℕ) (k : SpanHead) → page_of (h.words (Cell.Page p)) ≡ Head k → k.owner ≡ a + 1 → h.holds a p ≡ true
  holder p a k there owner = (has.good.heap.owners a p).0 (ap owner_in there ∙ owner)

  is_processor : (p a : ℕ) → h.holds a p ≡ true → a < setup.layout.procs
  is_processor p a held = elim (cases_lt a setup.layout.procs) [
    | inl lt ↦ lt
    | inr le ↦ absurd (let no : false ≡ true = sym ((has.of_list.others a le).holds p) ∙ held in cc)
  ]

  seat : (n : ℕ) → n ≢ 0 → n ≡ (n - 1) + 1
  seat n some = omega (arith, some)

  owners_now : OwnersAreProcessors setup.layout h.words
  owners_now p k there some = let own = holder p (k.owner - 1) k there (seat k.owner some) in (k.owner - 1, is_processor p (k.owner - 1) own, seat k.owner some)

  one_now : OwnsOneOfEach h.words
  one_now p q k g there also some owner class noscan =
      let a = k.owner - 1 in
      let first : h.holds a p ≡ true = holder p a k there (seat k.owner some) in
      let second : h.holds a q ≡ true = holder q a g also (sym owner ∙ seat k.owner some) in
      let is = has.of_list.processors a (is_processor p a first) in
      let o = held_by_class z a (view h) (processor_at setup es a) is.pending is.fine in
      let one : o.at k.class k.noscan ≡ Some p = o.each p k first there in
      let other : o.at g.class g.noscan ≡ Some q = o.each q g second also in
      let same : o.at k.class k.noscan ≡ o.at g.class g.noscan = ap (λ (c : SizeClass). o.at c k.noscan) class ∙ ap (λ (n : Bool). o.at g.class n) noscan in
      let both : Some p ≡ Some q = sym one ∙ (same ∙ other) in
      cc

  told_are : h.words ≡ words setup es
  told_are = grind arith

  pub owners_stand : OwnersAreProcessors setup.layout (words setup es)
  owners_stand = subst (OwnersAreProcessors setup.layout) told_are owners_now

  pub one_of_each : OwnsOneOfEach (words setup es)
  one_of_each = subst OwnsOneOfEach told_are one_now
