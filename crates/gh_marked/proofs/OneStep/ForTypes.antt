-- After every list each page is free, or one of a span for objects of one of the types. So it is where the heap opens, and each entry keeps it: a processor's step is a move over the heap, a sweep gives a span another number, whoever runs it, and no other step writes the word of a page.
use Rattle.std.proofs.Common.{◌≡◌, inl, ℕ, ◌<◌, refl, sym, ap, subst, ◌∙◌, arith, List, [], ◌∷◌, Option, Some, None}
use Rattle.gh_marked.proofs.Vocabulary.{acks_of, Actor, Arena, arena, Ask, asks, Cell, Coordinating, effect, Entry, FitsHead, Given, HasState, Head, Heap, IsForTypes, IsInSweep, Layout, Legal, ListsKnown, moved, Op, page_of, PagesAreForTypes, Processor, setup_for, SpanHead, State, sweep_in, sweep_of, Sweeping, SweepRuns, those, Words, words}
use Rattle.gh_sweep.specs.Facts as sweep_facts
use Rattle.gh_sweep.specs.Listing as sweep
use Rattle.gh_coord.specs.Listing as coord
use Rattle.gh_worker.specs.Listing as worker
use Rattle.gh_marked.proofs.OneStep.FreshPages.{fresh_page}
use Rattle.gh_marked.proofs.OneStep.Landing as landing
use Rattle.gh_marked.proofs.OneStep.OwnStep as step
use Rattle.gh_marked.proofs.OneStep.PageWords as pages
use Rattle.gh_marked.proofs.OneStep.Wanted.{Wanted}
use Rattle.gh_lists.specs.Steps as seats

module _ (given : Given) (wanted : Wanted) (lists : ListsKnown (setup_for given)) where
  abbrev Lawful : List (Entry Op) → Type 0
  Lawful es = Legal (those (setup_for given)) es

  abbrev told : List (Entry Op) → Words
  told es = words (setup_for given) es

  abbrev ForPage : ℕ → Type 0
  ForPage word = IsForTypes given.shapes (page_of word)

  abbrev For : List (Entry Op) → ℕ → Type 0
  For es q = ForPage (told es (Cell.Page q))

  -- One entry more, where the one state stands before it.
  module _ (e : Entry Op) (es : List (Entry Op)) (legal : Lawful (e ∷ es)) (has : HasState (setup_for given) es) (q : ℕ) (was : For es q) where
    abbrev s : State
    s = has.state

    abbrev h : Heap
    h = has.state.heap

    abbrev z : Arena
    z = arena (setup_for given)

    -- A sweep of a span, whoever runs it.

    is_swept : (m : Sweeping) (a : ℕ) → SweepRuns a s m → pages.IsSwept wanted.read given.shapes (told es) q was m
    is_swept m a runs = record {
      fits = runs.fine.placed.head.head;
      few = runs.fine.placed.head.number;
      begun = λ at. ap (λ (w : Words). w (Cell.Page m.page)) (sym has.of_list.words_are) ∙ (subst (sweep_facts.FactsAt m h.words) at runs.fine.facts).own;
    }

    swept : (l : Layout) (m : Sweeping) (a : ℕ) → SweepRuns a s m → e.ask ≡ sweep.asks l m → For (e ∷ es) q
    swept l m a runs asks_is = subst (λ (ask : Ask). ForPage (effect (told es) ask (Cell.Page q))) (sym asks_is) (pages.sweeps wanted.read given.shapes (told es) q was l m m.stage refl (is_swept m a runs))

    by_worker : (w : worker.Working) → seats.WorksIt (setup_for given) e es w → For (e ∷ es) q
    by_worker w x = go (worker.sweep_in w) refl where
      go : (y : Option Sweeping) → worker.sweep_in w ≡ y → For (e ∷ es) q
      go None none = subst (λ (ask : Ask). ForPage (effect (told es) ask (Cell.Page q))) (sym x.asked) (pages.worked wanted.read given.shapes (told es) q was lists.known.workers given.layout w none)
      go (Some m) is =
          let runs = subst (IsInSweep e.actor s) is (subst (λ (y : Actor). IsInSweep e.actor s (sweep_of y)) x.is (has.sweeps e.actor legal.1.actor)) in
          swept given.layout m e.actor runs.0 (x.asked ∙ ((lists.known.workers_sweep.runs given.layout).on w m is runs.1).asks_so)

    by_lead : (d : Coordinating) → seats.LeadsIt (setup_for given) e es d → For (e ∷ es) q
    by_lead d x = go (coord.sweep_in d) refl where
      go : (y : Option Sweeping) → coord.sweep_in d ≡ y → For (e ∷ es) q
      go None none = subst (λ (ask : Ask). ForPage (effect (told es) ask (Cell.Page q))) (sym x.asked) (pages.led wanted.read given.shapes (told es) q was lists.known.footprints given.layout d (lists.known.coordinator_parts given.layout) d.stage none)
      go (Some m) is =
          let runs = subst (IsInSweep (acks_of given.layout) s) is (subst (λ (y : Actor). IsInSweep (acks_of given.layout) s (sweep_of y)) x.is (has.sweeps (acks_of given.layout) (omega arith))) in
          swept given.layout m (acks_of given.layout) runs.0 (x.asked ∙ (lists.known.coordinator_sweeps.on given.layout d m is runs.1).asks_so)

    module _ (lt : e.actor < given.layout.procs) where
      abbrev now : Processor
      now = landing.now given lists.good lists.limits lists.known wanted e es legal lt has

      heads : (p : ℕ) (k : SpanHead) → page_of (h.words (Cell.Page p)) ≡ Head k → FitsHead k
      heads p k is = (has.good.sweep.heads p k is).fits

      was_now : ForPage (h.words (Cell.Page q))
      was_now = subst (λ (w : Words). ForPage (w (Cell.Page q))) (sym has.of_list.words_are) was

      asked : e.ask ≡ asks given.layout now
      asked = step.asked given lists.good lists.limits lists.known e es legal lt has

      moves : sweep_in now ≡ None → For (e ∷ es) q
      moves none =
          let land = step.land given lists.good lists.limits lists.known e es legal lt has none in
          let then : ForPage ((moved z e.actor h land.move).words (Cell.Page q)) =
          pages.moved wanted.read given.shapes lists.known.one z e.actor h (omega (arith, lt, lists.limits.procs_fit)) heads q was_now land.move land.may
          (λ locked free. subst (λ (w : Words). ForPage (w (Cell.Page q))) (sym land.words_are)
          (fresh_page wanted.pages z e.actor h q free now _ (step.fine_now given lists.good lists.limits lists.known e es legal lt has) none locked)) in
          subst (λ (w : Words). ForPage (w (Cell.Page q))) (land.words_are ∙ (ap (effect h.words) (sym asked) ∙ ap (λ (w : Words). effect w e.ask) has.of_list.words_are)) then

      by_processor : For (e ∷ es) q
      by_processor = go (sweep_in now) refl where
        go : (y : Option Sweeping) → sweep_in now ≡ y → For (e ∷ es) q
        go None none = moves none
        go (Some m) is =
            let runs = subst (IsInSweep e.actor s) is (landing.in_sweep_now given lists.good lists.limits lists.known wanted e es legal lt has) in
            swept given.layout m e.actor runs.0 (asked ∙ (lists.known.processors_sweep.on given.layout given.shapes now m is runs.1).asks_so)

    goes_on : For (e ∷ es) q
    goes_on = by (seats.step (setup_for given) e es lists.known.writes legal (lists.keeps es legal.0)) where
      by : seats.Step (setup_for given) e es → For (e ∷ es) q
      by (seats.by_processor m x s) = by_processor x.seat
      by (seats.by_worker w x s) = by_worker w x
      by (seats.by_lead d x) = by_lead d x

  module _ (has : (es : List (Entry Op)) → Lawful es → HasState (setup_for given) es) where
    pub for_types : (es : List (Entry Op)) → Lawful es → PagesAreForTypes given.shapes (told es)
    for_types [] legal q = inl refl
    for_types (e ∷ es) legal q = goes_on e es legal (has es legal.0) q (for_types es legal.0 q)
