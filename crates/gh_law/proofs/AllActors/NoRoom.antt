-- A search that ends without room saw that there is none, whether it is the first or the one behind the wait: what is known of a search is the same behind a wait, and there the step says that it saw so.
use Rattle.std.proofs.Common.{◌≡◌, inl, inr, ℕ, ◌<◌, ◌≤◌, Bool, true, false, refl, sym, ap, subst, ◌∙◌, arith, List, ◌∷◌, Option, Some, None}
use Rattle.gh_law.proofs.Vocabulary.{acting, Actor, actors, acts, Answer, Arena, arena, Ask, before_step, cases_lt, Cell, cell_of, EndsWithoutRoom, Entry, FactsAt, Given, HasNoRoom, HasState, Heap, Kind, KnowsAt, Legal, legal_start, ListsKnown, NoneMeansNoRoom, Op, Processor, processor_at, processor_kind, ProcessorFacts, run_started, runs_are, Searches, Seeking, Setup, setup_for, started, Store, Task, those, View, view, Wanted, Words, words}
use Rattle.gh_alloc.specs.declared.find.After.TheVariants.{End}
use Rattle.gh_alloc.specs.declared.find.FindStage.{FindStage}
use Rattle.gh_alloc.specs.declared.find.FindStage.TheVariants.{Unlock}
use Rattle.gh_alloc.specs.declared.search.SearchStage.{SearchStage}
use Rattle.gh_alloc.specs.declared.search.SearchStage.TheVariants.{First, Free, Second}
use Rattle.gh_alloc.specs.declared.sought.Found.{Found}
use Rattle.gh_alloc.specs.declared.sought.Found.TheVariants.{NoRoom}
use Rattle.gh_alloc.specs.Find as find
use Rattle.gh_alloc.specs.FindFacts as finding
use Rattle.gh_alloc.specs.Search as search
use Rattle.gh_alloc.specs.SearchFacts as seeks
use Rattle.gh_alloc.proofs.Seeking.Refusing.{search_refuses}
use Rattle.gh_lists.specs.Handshake as handshake
use Rattle.gh_lists.specs.Processors.{IsFullFor}
use Rattle.gh_lists.specs.Resting.{rests, rests_on}
use Rattle.gh_mutator.specs.Listing as processor
use Rattle.gh_mutator.specs.New.{op_of, refuses_behind_wait, searches}
use Rattle.gh_mutator.specs.Processor.{at_task, opening_processor}
use Rattle.gh_mutator_heap.specs.Facts.{FullAt, HasAt}
use Rattle.gh_marked.proofs.OneStep.Refusals.{full_for}
use Rattle.gh_law.proofs.Within.Processors.{begun_fine}

-- The last step of such a search frees the lock.

last_stage : (z : Arena) (a : ℕ) (sure : Bool) (v : View) (f : find.Finding) (p : FindStage) → finding.FactsAt z a sure v f p → find.refuses_at p ≡ true → p ≡ Unlock (End NoRoom)
last_stage z a sure v f p facts e = grind arith

record IsLast (q : Seeking) : Type 0 where
  second : q.stage ≡ Second
  frees : q.find.stage ≡ Unlock (End NoRoom)

is_last : (z : Arena) (a : ℕ) (v : View) (rest : ℕ → Bool) (f : find.Finding) (p : SearchStage) → seeks.FactsAt z a v rest f p → search.refuses_at f p ≡ true → IsLast (record { find = f; stage = p })
is_last z a v rest f First x e = absurd (let no : false ≡ true = sym x.on ∙ e in cc)
is_last z a v rest f (Free r) x e = absurd (cc)
is_last z a v rest f Second x e = record { second = refl; frees = last_stage z a true v f f.stage x.facts.stage e }

asks_last : (z : Arena) (q : Seeking) → IsLast q → search.asks z.layout q ≡ Store Cell.Lock 0
asks_last z q is = ap (search.asks_at z.layout q.find) is.second ∙ ap (find.asks_at z.layout q.find) is.frees

sweeps_none : (q : Seeking) → IsLast q → search.sweep_in q ≡ None
sweeps_none q is = ap (search.sweep_at q.find) is.second ∙ ap find.sweep_at is.frees

-- The search as one behind a wait.
module _ (z : Arena) (a : ℕ) (v : View) (m : Processor) (w : Wanted) (q : Seeking) where
  abbrev pub behind : Processor
  behind = at_task m (searches w true q)

  searches_still : (pending : Option Answer) → Searches z a v m w q pending → Searches z a v behind w q pending
  searches_still pending s = record { wants = s.wants; wanted = s.wanted; cached = s.cached; facts = s.facts; unanswered = s.unanswered }

  known_behind : (waited : Bool) (pending : Option Answer) → m.task ≡ searches w waited q → ProcessorFacts z a v m pending → ProcessorFacts z a v behind pending
  known_behind waited pending at f = record {
    counts = f.counts;
    knows = subst (KnowsAt z a v m.poll) at f.knows;
    right = subst (HasAt a v m) at f.right;
    task = searches_still pending (subst (FactsAt z a v m pending) at f.task);
  }

module _ (given : Given) (lists : ListsKnown (setup_for given)) where
  abbrev setup : Setup
  setup = setup_for given

  abbrev z : Arena
  z = arena setup

  abbrev k : Kind Processor Op
  k = processor_kind given.shapes given.layout

  abbrev all : Kind Actor Op
  all = actors setup

  -- An entry with which a search ends so.
  module _ (e : Entry Op) (es : List (Entry Op)) (w : Wanted) (legal : Legal (those setup) (e ∷ es)) (has : HasState setup es) (x : EndsWithoutRoom setup e es w) where
    abbrev now : Processor
    now = before_step given.shapes given.layout es e

    abbrev h : Heap
    h = has.state.heap

    abbrev q : Seeking
    q = x.seeking

    -- with the word that it found
    abbrev sees : ℕ
    sees = h.words (cell_of (search.asks given.layout x.seeking))

    module _ (lt : e.actor < given.layout.procs) where
      fine : (pending : Option Answer) × ProcessorFacts z e.actor (view h) now pending
      fine = begun_fine given lists.good lists.known es e.actor e.begun lt legal.1.begins has

      abbrev m : Processor
      m = behind z e.actor (view h) now w q

      m_fine : ProcessorFacts z e.actor (view h) m fine.0
      m_fine = known_behind z e.actor (view h) now w q x.waited fine.0 x.searches_then fine.1

      last : IsLast q
      last = is_last z e.actor (view h) _ q.find q.stage m_fine.task.facts (search_refuses given.layout q.find q.stage e.found x.none)

      asked : e.ask ≡ search.asks given.layout q
      asked = legal.1.asks ∙ (ap (handshake.asks given.layout) (ap (started all e.begun) (runs_are setup es e.actor lt) ∙ run_started setup e.begun (processor_at setup es e.actor)) ∙ ap (processor.asks_at given.layout now) x.searches_then)

      found : e.found ≡ sees
      found = legal.1.found ∙ (ap (λ (y : Ask). words setup es (cell_of y)) asked ∙ ap (λ (y : Words). y (cell_of (search.asks given.layout q))) (sym has.of_list.words_are))

      act : acts given.layout m sees ≡ Some (record { op = op_of w; full = true })
      act = ap (λ (out : Option Found). acting (refuses_behind_wait true out) (op_of w) true) (ap (search.gives given.layout q) (sym found) ∙ x.none)

      full : FullAt z e.actor (view h) m (op_of w)
      full = (lists.known.runs.own_step z e.actor h m fine.0 lists.good refl has.good.heap (sweeps_none q last) m_fine).after.does.full (record { op = op_of w; full = true }) act refl

      there_is_none : HasNoRoom setup e es w
      there_is_none = record {
        unlocks = asked ∙ asks_last z q last;
        no_room = subst (λ (y : Words). IsFullFor z e.actor y (op_of w)) has.of_list.words_are (full_for z h has.good.heap has.of_list.others e.actor m (op_of w) full);
      }

    -- another than a processor searches for nothing
    no_other : given.layout.procs ≤ e.actor → ⊥
    no_other ge = let rest : now ≡ opening_processor e.actor = rests_on setup e es legal ge (rests setup es legal.0 e.actor ge) in let no : Task.Idle ≡ searches w x.waited q = sym (ap (λ (y : Processor). y.task) rest) ∙ x.searches_then in cc

    has_no_room : HasNoRoom setup e es w
    has_no_room = elim (cases_lt e.actor given.layout.procs) [ inl lt ↦ there_is_none lt | inr ge ↦ absurd (no_other ge) ]

  pub none_means_no_room : ((es : List (Entry Op)) → Legal (those setup) es → HasState setup es) → (es : List (Entry Op)) → Legal (those setup) es → NoneMeansNoRoom setup es
  none_means_no_room has es legal e before w of x = let there = legal_start (those setup) (e ∷ before) es of legal in has_no_room e before w there (has before there.0) x
