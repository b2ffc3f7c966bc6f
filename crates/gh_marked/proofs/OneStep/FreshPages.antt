-- Whatever a processor that runs no sweep writes to a free page is one of a span for objects of one of the types: the span that it lays out is for the object that it is to make. Another step leaves the page free.
use Rattle.std.proofs.Common.{◌≡◌, inl, inr, ℕ, ◌<◌, Bool, true, false, cond, eqb, refl, sym, ap, subst, ◌∙◌, arith, length, Option, Some, None}
use Rattle.std.proofs.lemmas.Bool.{eqb-true}
use Rattle.gh_marked.proofs.Vocabulary.{Answer, Arena, Ask, asks, asks_at, Body, Cell, effect, FactsAt, Free, give_locked_at, GiveStageFacts, Head, Heap, is_locked_at, IsForTypes, IsPageFor, KnowsAt, KnowsNew, leave_locked_at, LeaveStage, LeaveStageFacts, Load, locked_new, NewFacts, NewStage, page_of, PageWord, poll_locked_at, Polling, PollStage, PollStageFacts, Processor, ProcessorFacts, rest, Searches, shape_at, Small, Sought, sought_for, span_for, SpanClass, SpanHead, Store, sweep_at, sweep_in, sweep_new, Task, View, view, waits_locked_at, WaitStage, WaitStageFacts, Wanted, Words}
use Rattle.gh_pages.specs.declared.carve.Span.{Span}
use Rattle.gh_pages.specs.Facts.{CarvesByItsRights, IsPageOf, LaysPage}
use Rattle.gh_pages.specs.Listing as carve
use Rattle.gh_central.specs.GiveBack as give_back
use Rattle.gh_central.specs.Owning.{FreesPage, WritesHead}
use Rattle.gh_central.specs.PassFacts.{PassesByItsRights}
use Rattle.gh_central.specs.Reclaim as reclaim
use Rattle.gh_central.specs.ReclaimFacts.{ReclaimsByItsRights}
use Rattle.gh_central.specs.SweptPass as pass
use Rattle.gh_central.specs.UnsweptFacts.{SweepsByItsRights}
use Rattle.gh_central.specs.UnsweptPass as unswept
use Rattle.gh_alloc.specs.declared.find.FindStage.{FindStage}
use Rattle.gh_alloc.specs.declared.search.SearchStage.{SearchStage}
use Rattle.gh_alloc.specs.declared.sought.CachedSpan.{CachedSpan}
use Rattle.gh_alloc.specs.Find.{Finding}
use Rattle.gh_alloc.specs.Find as find
use Rattle.gh_alloc.specs.FindFacts as finding
use Rattle.gh_alloc.specs.Search.{Seeking}
use Rattle.gh_alloc.specs.Search as search
use Rattle.gh_alloc.specs.SearchFacts as searching
use Rattle.gh_poll.specs.declared.give.GiveStage.{GiveStage}
use Rattle.gh_poll.specs.Give as give
use Rattle.gh_poll.specs.Leave as leave
use Rattle.gh_mutator.specs.New as new
use Rattle.gh_poll.specs.Poll as poll
use Rattle.gh_poll.specs.Wait.{Waiting, waiting}
use Rattle.gh_poll.specs.Wait as wait

-- what the parts of a search write
pub record WritesOfSearches : Type 0 where
  pub passes : PassesByItsRights
  pub sweeps : SweepsByItsRights
  pub reclaims : ReclaimsByItsRights
  pub carves : CarvesByItsRights

module _ (parts : WritesOfSearches) (z : Arena) (a : ℕ) (h : Heap) (q : ℕ) (free : page_of (h.words (Cell.Page q)) ≡ Free) where
  abbrev v : View
  v = view h

  abbrev w : Words
  w = h.words

  -- what the step leaves of the page is for one of the types
  abbrev For : Ask → Type 0
  For ask = IsForTypes z.shapes (page_of (effect w ask (Cell.Page q)))

  abbrev ForPage : ℕ → Type 0
  ForPage word = IsForTypes z.shapes (page_of word)

  still : ForPage (w (Cell.Page q))
  still = inl free

  elsewhere : (p value : ℕ) (k : SpanHead) → page_of (w (Cell.Page p)) ≡ Head k → For (Store (Cell.Page p) value)
  elsewhere p value k there = go (eqb p q) refl where
    go : (b : Bool) → eqb p q ≡ b → ForPage (cond b value (w (Cell.Page q)))
    go true is = absurd (let no : Head k ≡ Free = sym there ∙ (ap (λ (n : ℕ). page_of (w (Cell.Page n))) (eqb-true _ _ is) ∙ free) in cc)
    go false is = still

  onto : (p value : ℕ) → ForPage value → For (Store (Cell.Page p) value)
  onto p value is = go (eqb p q) where
    go : (b : Bool) → ForPage (cond b value (w (Cell.Page q)))
    go true = is
    go false = still

  freed : (p : ℕ) → For (Store (Cell.Page p) 0)
  freed p = grind (arith, onto)

  -- Spans are given back.
  gives : (g : give.Giving) (s : GiveStage) → give_locked_at s ≡ true → GiveStageFacts z a v g s → For (give.asks_at g s)
  gives g (GiveStage.GiveSpan class s) locked f = let k = (f.caches class s (omega arith) f.among f.here).span in elsewhere s.head _ k.h k.head
  gives g GiveStage.Unlock locked f = still
  gives g GiveStage.Lock locked f = absurd (cc)
  gives g (GiveStage.GiveBuffer b) locked f = absurd (cc)
  gives g GiveStage.Ended locked f = absurd (cc)

  polls_at : (p : Polling) (s : PollStage) → poll_locked_at s ≡ true → PollStageFacts z a v p s → For (poll.asks_at s)
  polls_at p (PollStage.Giving g stops) locked f = gives g g.stage locked f.stage_is
  polls_at p _ locked f = absurd (cc)

  waits_at : (x : Waiting) (s : WaitStage) → waits_locked_at x.poll s ≡ true → WaitStageFacts z a v x.poll s → For (wait.asks_at x s)
  waits_at x WaitStage.Polling locked f = polls_at x.poll x.poll.stage locked f.stage_is
  waits_at x _ locked f = absurd (cc)

  leaves_at : (x : leave.Leaving) (s : LeaveStage) → leave_locked_at s ≡ true → LeaveStageFacts z a v s → For (leave.asks_at x s)
  leaves_at x (LeaveStage.Giving g) locked f = gives g g.stage locked f.stage_is
  leaves_at x _ locked f = absurd (cc)

  -- A slot is looked for.

  -- what is written is a head where one stands, or a free page
  heads : (step : Ask) → WritesHead v.page step → For step
  heads (Load c) is = still
  heads (Store (Cell.Page p) word) is = elsewhere p word is.0 is.1
  heads _ is = absurd is

  frees : (step : Ask) → FreesPage step → For step
  frees (Load c) is = still
  frees (Store (Cell.Page p) word) is = subst (λ (x : ℕ). For (Store (Cell.Page p) x)) (sym is) (freed p)
  frees _ is = absurd is

  -- the cached span is given back
  gives_back : (c : SpanClass) (k : CachedSpan) (f : Finding) (g : give_back.SpanGiving) → finding.IsCached a v c k → g ≡ give_back.opening k.head (find.given_head f.generation c) → For (give_back.asks g)
  gives_back c k f g cached is = subst (λ (x : give_back.SpanGiving). For (give_back.asks x)) (sym is) (elsewhere k.head _ cached.span.h cached.span.head)

  module _ (t : ℕ) (type : t < length z.shapes) where
    abbrev span : Span
    span = span_for (sought_for (shape_at z.shapes t))

    page_for : (page : PageWord) → IsPageOf span page → IsPageFor (shape_at z.shapes t) page
    page_for Free is = absurd is
    page_for (Head k) is = record { class = is.0; noscan = is.1; pages = is.2 }
    page_for (Body b) is = record { class = is.0; noscan = is.1; distance = (is.2, is.3) }

    -- or a page of the span that is laid out
    lays : (step : Ask) → LaysPage span step → For step
    lays (Load c) is = still
    lays (Store (Cell.Page p) word) is = onto p word (inr (t, type, page_for (page_of word) is))
    lays _ is = absurd is

    finds : (sure : Bool) (rest : ℕ → Bool) (f : Finding) (s : FindStage) → f.wanted ≡ sought_for (shape_at z.shapes t) → finding.Caches a v f.wanted f.cached → finding.is_locked s ≡ true → find.sweep_at s ≡ None → finding.FactsAt z a sure v f s → For (find.asks_at z.layout f s)
    finds sure rest f (FindStage.Give g) wanted caches locked none x = gives_back x.c x.k f g (cached x.for.wanted x.for.cached caches) x.is where
      cached : {c : SpanClass} {k : CachedSpan} → f.wanted ≡ Small c → f.cached ≡ Some k → finding.Caches a v f.wanted f.cached → finding.IsCached a v c k
      cached {c} {k} small some caches = subst (λ (o : Option CachedSpan). finding.Caches a v (Small c) o) some (subst (λ (s : Sought). finding.Caches a v s f.cached) small caches)
    finds sure rest f (FindStage.Unswept u) wanted caches locked none x = heads (unswept.asks z.layout u) (parts.sweeps.heads z a v u x.facts none)
    finds sure rest f (FindStage.Pass p) wanted caches locked none x = heads (pass.asks z.layout p) (parts.passes.heads z a sure v p x.facts)
    finds sure rest f (FindStage.Carve c) wanted caches locked none x =
        lays (carve.asks c) (subst (λ (y : Span). LaysPage y (carve.asks c)) (ap (λ (y : carve.Carving). y.span) x.is ∙ ap span_for wanted) (parts.carves.lays z a v c x.facts))
    finds sure rest f (FindStage.Unlock after) wanted caches locked none x = still
    finds sure rest f (FindStage.Slots s) wanted caches locked none x = absurd (cc)
    finds sure rest f FindStage.Lock wanted caches locked none x = absurd (cc)
    finds sure rest f (FindStage.Ended out) wanted caches locked none x = absurd (cc)

    seeks : (rest : ℕ → Bool) (f : Finding) (s : SearchStage) → f.wanted ≡ sought_for (shape_at z.shapes t) → searching.is_locked f s ≡ true → search.sweep_at f s ≡ None → searching.FactsAt z a v rest f s → For (search.asks_at z.layout f s)
    seeks rest f SearchStage.First wanted locked none x = finds false rest f f.stage wanted x.facts.caches locked none x.facts.stage
    seeks rest f (SearchStage.Free r) wanted locked none x = frees (reclaim.asks z.layout r) (parts.reclaims.frees z.layout r none)
    seeks rest f SearchStage.Second wanted locked none x = finds true rest f f.stage wanted x.facts.caches locked none x.facts.stage

  -- At each task.
  module _ (m : Processor) (pending : Option Answer) where
    searches : (wanted : Wanted) (s : Seeking) → Searches z a v m wanted s pending → searching.is_locked s.find s.stage ≡ true → search.sweep_in s ≡ None → For (search.asks z.layout s)
    searches wanted s f locked none =
        let sought : wanted.sought ≡ sought_for (shape_at z.shapes wanted.t) = ap (λ (x : Wanted). x.sought) f.wants.is in
        seeks wanted.t f.wants.type (rest m wanted) s.find s.stage (f.wanted ∙ sought) locked none f.facts

    new_page : (wanted : Wanted) (s : NewStage) → locked_new m s ≡ true → sweep_new s ≡ None → KnowsNew z a v m.poll s → NewFacts z a v m wanted pending s → For (new.asks_at z.layout m s)
    new_page wanted (NewStage.Search waited s) locked none k f = searches wanted s f locked none
    new_page wanted (NewStage.Wait x) locked none k f = waits_at (waiting x m.poll) x.stage locked k
    new_page wanted (NewStage.Place x) locked none k f = absurd (cc)
    new_page wanted (NewStage.Want n) locked none k f = absurd (cc)
    new_page wanted (NewStage.Assist n x) locked none k f = absurd (cc)

    at_task : (t : Task) → is_locked_at m t ≡ true → sweep_at t ≡ None → KnowsAt z a v m.poll t → FactsAt z a v m pending t → For (asks_at z.layout m t)
    at_task (Task.New x) locked none k f = new_page x.wanted x.stage locked none k f
    at_task (Task.Gc g x) locked none k f = waits_at (waiting x m.poll) x.stage locked k
    at_task Task.Poll locked none k f = polls_at m.poll m.poll.stage locked k.stage_is
    at_task (Task.Leave x) locked none k f = leaves_at x x.stage locked k.stage_is
    at_task _ locked none k f = absurd (cc)

    -- with the lock
    pub fresh_page : ProcessorFacts z a v m pending → sweep_in m ≡ None → h.locked a ≡ true → For (asks z.layout m)
    fresh_page fine none locked = at_task m.task (sym fine.right.locked ∙ locked) none fine.knows fine.task
