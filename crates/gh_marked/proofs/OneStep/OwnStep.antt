-- One entry more of a processor: what it is with its operation begun, and that its step is a move over the heap that its rights allow, or one of the sweep that it runs.
use Rattle.std.proofs.Common.{◌≡◌, ℕ, ◌<◌, inr, Bool, true, false, sym, ap, subst, ◌∙◌, List, ◌∷◌, Some, None, arith}
use Rattle.gh_marked.proofs.Vocabulary.{Actor, actors, Arena, arena, Ask, asks, asks_by, by, cell_of, DoesPoints, Entry, Given, Good, HasState, Heap, is_busy_at, IsAsItShould, IsHeapOf, IsInLimits, IsSound, Kind, Known, Legal, made_by, may_of, may_parts, Op, Processor, processor_at, processor_kind, ProcessorFacts, run_started, runs_are, setup_for, ShapesAreGood, started, state_by, state_of, Steps, sweep_in, those, view, Words, words}
use Rattle.gh_mutator_heap.specs.Facts.{MayBegin}
use Rattle.gh_marked.specs.MayBegin.{may-begin}
use Rattle.gh_marked.proofs.OneStep.Ranging.{begins_so, busy_now}

module _ (given : Given) (good : ShapesAreGood given.shapes) (limits : IsInLimits given.layout) (known : Known) where
  abbrev may : ℕ → List (Entry Op) → Op → Bool
  may = may_of given.shapes given.layout given.counts

  abbrev z : Arena
  z = arena (setup_for given)

  abbrev k : Kind Processor Op
  k = processor_kind given.shapes given.layout

  abbrev all : Kind Actor Op
  all = actors (setup_for given)

  module _ (e : Entry Op) (es : List (Entry Op)) (legal : Legal (those (setup_for given)) (e ∷ es)) (lt : e.actor < given.layout.procs) (has : HasState (setup_for given) es) where
    -- The heap behind the list.

    abbrev h : Heap
    h = has.state.heap

    abbrev of : IsHeapOf (setup_for given) es has.state.heap
    of = has.of_list

    abbrev gh : Good z (view has.state.heap)
    gh = has.good.heap

    abbrev pub a : ℕ
    a = e.actor

    abbrev pub m : Processor
    m = processor_at (setup_for given) es a

    abbrev pub now : Processor
    now = started k e.begun m

    pub is : IsAsItShould (setup_for given) es h a m
    is = of.processors a lt

    -- Where an operation begins.

    pub begins_with : (P : Processor → Type 0) → P m → ((o : Op) → e.begun ≡ Some o → P (k.begins m o)) → P now
    begins_with P none some = grind arith

    pub idle : (o : Op) → e.begun ≡ Some o → is_busy_at m.task ≡ false
    idle o x = (begins_so given known e es legal lt o x).idle

    pub may_now : (o : Op) → e.begun ≡ Some o → may a (by a es) o ≡ true
    may_now o x = (begins_so given known e es legal lt o x).may_now

    pub sound_now : IsSound given.layout now
    sound_now = begins_with (IsSound given.layout) is.sound (λ o x. known.writes.sound_begins given.shapes given.layout m o is.sound (idle o x))

    pub may_begin : (o : Op) → e.begun ≡ Some o → MayBegin z a (view h) o
    may_begin o x = may-begin z a (view h) (state_of k a (by a es)) (by a es) (λ g its y. is.ended g its (inr y))
        (λ g its. ap (λ (p : Processor). made_by p g) (state_by k a es) ∙ is.fine.counts.each g its) o (may_parts z given.counts a (state_of k a (by a es)) (by a es) o (may_now o x)).runs

    pub rests : (o : Op) → e.begun ≡ Some o → is.pending ≡ None
    rests o x = known.runs.rests z a (view h) m is.pending (idle o x) is.fine

    pub fine_now : ProcessorFacts z a (view h) now is.pending
    fine_now = begins_with (λ p. ProcessorFacts z a (view h) p is.pending) is.fine (λ o x. subst (ProcessorFacts z a (view h) (k.begins m o)) (sym (rests o x))
        (known.runs.begins z a (view h) m o good gh (subst (ProcessorFacts z a (view h) m) (rests o x) is.fine) (idle o x) (λ going. may_begin o x)))

    -- The step.

    pub busy : is_busy_at now.task ≡ true
    busy = busy_now given known e es legal lt

    pub asked : e.ask ≡ asks given.layout now
    asked = legal.1.asks ∙ ap (asks_by given.layout) (ap (started all e.begun) (runs_are (setup_for given) es a lt) ∙ run_started (setup_for given) e.begun m)

    abbrev pub found : ℕ
    found = h.words (cell_of (asks given.layout now))

    pub found_is : e.found ≡ found
    found_is = legal.1.found ∙ (ap (λ (q : Ask). words (setup_for given) es (cell_of q)) asked ∙ ap (λ (w : Words). w (cell_of (asks given.layout now))) (sym of.words_are))

    -- where it runs no sweep
    pub land : sweep_in now ≡ None → Steps z a h (asks given.layout now) (λ t. DoesPoints z a h t now is.pending found)
    land none = known.runs.own_step z a h now is.pending good busy gh none fine_now
