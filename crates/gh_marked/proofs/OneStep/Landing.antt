-- One entry more of a processor, whatever the coordinator's stage: its step is a move of the one state, over the heap by its rights or one of the sweep that it runs, and what is known of it holds behind.
use Rattle.std.proofs.Common.{◌≡◌, ◌≢◌, ℕ, ◌<◌, Bool, true, false, cond, refl, sym, ap, subst, ◌∙◌, arith, Option, Some, None, List, ◌∷◌}
use Rattle.gh_marked.proofs.Vocabulary.{Answer, Arena, arena, Ask, asks, begins, BeginsSweep, Cell, cell_of, DoesPoints, effect, Entry, Given, has_left_at, HasState, Heap, idle_sweeps_none, is_busy_at, IsInLimits, IsInSweep, Known, Legal, MarksNothing, may_of, moved, Op, Others, Processor, processor_at, processor_kind, ProcessorFacts, Row, runs_are, seats_of, SeatSweepsNothing, setup_for, Shape, ShapesAreGood, started, State, StateGood, Steps, sweep_in, sweep_of, Sweeping, SweepKeeps, SweepsOn, takes, those, uncounted, view, Words}
use Rattle.gh_central.specs.Sweeping.{SweepLeaves}
use Rattle.gh_state.specs.Moves as state
use Rattle.gh_sweep.specs.Listing as sweep
use Rattle.gh_marked.proofs.OneStep.Counting as counting
use Rattle.gh_marked.proofs.OneStep.OwnStep as step
use Rattle.gh_marked.proofs.OneStep.Placing.{idle_plain, sweeps_plain}
use Rattle.gh_marked.proofs.OneStep.Sweepers as sweepers
use Rattle.gh_marked.proofs.OneStep.Wanted.{Wanted}

-- what begins has placed nothing
begun_places : (shapes : List Shape) (m : Processor) (o : Op) (b : Bool) → is_busy_at m.task ≡ false → uncounted (cond b m (begins shapes m o)).task ≡ 0
begun_places shapes m o b idle = grind arith

-- what a sweep leaves to who runs it, of the heap
pub leaves_of : (s t : State) → SweepKeeps s t → SweepLeaves (view s.heap) (view t.heap)
leaves_of s t k = record { locked = k.locked; holds = k.holds; laying = k.laying; freeing = k.freeing; place = k.place; ever = k.ever; leaves = k.leaves; owned = k.owned; stands = k.stands }

module _ (given : Given) (good : ShapesAreGood given.shapes) (limits : IsInLimits given.layout) (known : Known) (wanted : Wanted) where
  abbrev may : ℕ → List (Entry Op) → Op → Bool
  may = may_of given.shapes given.layout given.counts

  abbrev z : Arena
  z = arena (setup_for given)

  module _ (e : Entry Op) (es : List (Entry Op)) (legal : Legal (those (setup_for given)) (e ∷ es)) (lt : e.actor < given.layout.procs) (has : HasState (setup_for given) es) where
    abbrev a : ℕ
    a = e.actor

    abbrev m : Processor
    m = processor_at (setup_for given) es a

    abbrev pub now : Processor
    now = started (processor_kind given.shapes given.layout) e.begun m

    abbrev s : State
    s = has.state

    abbrev h : Heap
    h = has.state.heap

    abbrev pub found : ℕ
    found = h.words (cell_of (asks given.layout now))

    abbrev pending : Option Answer
    pending = (step.is given good limits known e es legal lt has).pending

    -- what the step is, and what it leads to
    pub record Lands : Type 0 where
      pub move : state.Move
      pub allowed : state.May z a s move
      pub words_are : (state.moved z a s move).heap.words ≡ effect h.words (asks given.layout now)
      pub after : DoesPoints z a h (state.moved z a s move).heap now pending found
      -- what it has placed and not counted, and what it sweeps then
      pub own : (state.moved z a s move).pend a ≡ uncounted (takes given.layout given.shapes now found).task
      pub others : (b : ℕ) → b ≢ a → (state.moved z a s move).pend b ≡ s.pend b
      pub sweeps : IsInSweep a (state.moved z a s move) (sweep_in (takes given.layout given.shapes now found))

    -- What is known before it.

    begun_counts : uncounted now.task ≡ uncounted m.task
    begun_counts = step.begins_with given good limits known e es legal lt has (λ p. uncounted p.task ≡ uncounted m.task) refl (λ o x.
        let idle = step.idle given good limits known e es legal lt has o x in
        begun_places given.shapes m o (has_left_at m.task) idle ∙ sym (idle_plain m.task idle))

    pub pend_is : s.pend a ≡ uncounted now.task
    pend_is = grind (arith, begun_counts)

    pub seat : a < seats_of given.layout
    seat = omega (arith, lt)

    in_sweep : IsInSweep a s (sweep_in m)
    in_sweep = subst (λ (x : _). IsInSweep a s (sweep_of x)) (runs_are (setup_for given) es a lt) (has.sweeps a seat)

    pub in_sweep_now : IsInSweep a s (sweep_in now)
    in_sweep_now = step.begins_with given good limits known e es legal lt has (λ p. IsInSweep a s (sweep_in p)) in_sweep (λ o x.
        let none = idle_sweeps_none m.task (step.idle given good limits known e es legal lt has o x) in
        subst (IsInSweep a s) (sym (known.processors_sweep.begun given.shapes given.layout m o none)) (subst (IsInSweep a s) none in_sweep))

    pub fine_now : ProcessorFacts z a (view h) now pending
    fine_now = step.fine_now given good limits known e es legal lt has

    pub busy : is_busy_at now.task ≡ true
    busy = step.busy given good limits known e es legal lt has

    -- It runs no sweep: the step is a move over the heap, or counts what was placed.
    module _ (calm : s.told ≡ None → MarksNothing now) (none : sweep_in now ≡ None) where
      abbrev pub land : Steps z a h (asks given.layout now) (λ t. DoesPoints z a h t now pending found)
      land = step.land given good limits known e es legal lt has none

      abbrev stepped : counting.Stepped z a s now found pending land.move
      stepped = record {
        good = has.good;
        seat = seat;
        busy = busy;
        sound = step.sound_now given good limits known e es legal lt has;
        fine = fine_now;
        pends = pend_is;
        calm = calm;
        none = none;
        may = land.may;
        words = land.words_are;
        does = land.after.does;
      }

      abbrev pub counted : counting.Counted known wanted.whole z a s now found pending land.move stepped
      counted = counting.counted known wanted.whole z a s now found pending land.move stepped

      abbrev t : State
      t = state.moved z a s counted.to_move

      good_then : StateGood z t
      good_then = known.keeps z a s counted.to_move has.good counted.may_move

      pub words_then : t.heap.words ≡ effect h.words (asks given.layout now)
      words_then = ap (λ (x : Heap). x.words) counted.heap_is ∙ land.words_are

      -- it begins to sweep where it has found an unswept span
      pub sweeps_then : IsInSweep a t (sweep_in (takes given.layout given.shapes now found))
      sweeps_then = go (sweep_in (takes given.layout given.shapes now found)) refl where
        rests : SeatSweepsNothing a t
        rests = counted.rests (subst (IsInSweep a s) none in_sweep_now)

        go : (x : Option Sweeping) → sweep_in (takes given.layout given.shapes now found) ≡ x → IsInSweep a t x
        go None is = rests
        go (Some sw) is = sweepers.begins known z a t good_then rests (view h).generation (asks given.layout now) found sw number loaded b where
          b : BeginsSweep (view h).generation (asks given.layout now) found sw
          b = known.processors_sweep.begins z a (view h) now pending found sw fine_now none is

          same_words : (c : _) → t.heap.words c ≡ h.words c
          same_words c = ap (λ (w : Words). w c) words_then ∙ ap (λ (q : Ask). effect h.words q c) b.step_is

          number : (view h).generation ≡ t.heap.words Cell.Gen
          number = sym (same_words Cell.Gen)

          loaded : found ≡ t.heap.words (cell_of (asks given.layout now))
          loaded = sym (same_words (cell_of (asks given.layout now)))

      abbrev pub by_deed : Lands
      by_deed = record {
        move = counted.to_move;
        allowed = counted.may_move;
        words_are = words_then;
        after = subst (λ (x : Heap). DoesPoints z a h x now pending found) (sym counted.heap_is) land.after;
        own = counted.own;
        others = counted.others;
        sweeps = sweeps_then;
      }

      -- the heap moves as by the processor's own rights
      pub deed_heap : (state.moved z a s by_deed.move).heap ≡ moved z a h land.move
      deed_heap = counted.heap_is

    -- It runs a sweep: the step is the sweep's.
    module _ (sw : Sweeping) (is : sweep_in now ≡ Some sw) where
      runs : IsInSweep a s (Some sw)
      runs = grind (arith, in_sweep_now)

      on : SweepsOn given.layout (asks given.layout) (takes given.layout given.shapes) sweep_in now sw
      on = known.processors_sweep.on given.layout given.shapes now sw is runs.1

      found_is : found ≡ h.words (cell_of (sweep.asks given.layout sw))
      found_is = ap (λ (q : Ask). h.words (cell_of q)) on.asks_so

      abbrev swept : State
      swept = sweepers.then known z a s has.good seat sw runs found found_is

      words_swept : swept.heap.words ≡ effect h.words (asks given.layout now)
      words_swept = (sweepers.goes_on known z a s has.good seat sw runs found found_is).words_are ∙ ap (effect h.words) (sym on.asks_so)

      pend_stays : swept.pend ≡ s.pend
      pend_stays = (sweepers.rows_stay known z a s sw sw.stage found).pend

      plain : (uncounted now.task ≡ 0) × (uncounted (takes given.layout given.shapes now found).task ≡ 0)
      plain = sweeps_plain given.layout given.shapes now found now.task sw is

      pub by_sweep : Lands
      by_sweep = record {
        move = sweepers.move known z a s has.good seat sw runs found found_is;
        allowed = (sweepers.goes_on known z a s has.good seat sw runs found found_is).may;
        words_are = words_swept;
        after = known.runs.sweep_step z a h swept.heap now pending sw good has.good.heap (sweepers.good_then known z a s has.good seat sw runs found found_is).heap fine_now is (leaves_of s swept (sweepers.goes_on known z a s has.good seat sw runs found found_is).keeps) words_swept;
        own = ap (λ (r : Row). r a) pend_stays ∙ (pend_is ∙ (plain.0 ∙ sym plain.1));
        others = λ b differs. ap (λ (r : Row). r b) pend_stays;
        sweeps = sweepers.sweeps_on known z a s has.good seat sw runs found found_is (sweep_in (takes given.layout given.shapes now found)) (on.goes_so found);
      }

    -- Whichever it is.
    pub lands : (s.told ≡ None → MarksNothing now) → Lands
    lands calm = go (sweep_in now) refl where
      go : (x : Option Sweeping) → sweep_in now ≡ x → Lands
      go None none = by_deed calm none
      go (Some sw) is = by_sweep sw is

    -- where a cycle is under way nobody sweeps
    pub sweeps_none : (s.told ≡ None → ⊥) → sweep_in now ≡ None
    sweeps_none under = go (sweep_in now) refl where
      go : (x : Option Sweeping) → sweep_in now ≡ x → x ≡ None
      go None is = refl
      go (Some sw) is = absurd (under (subst (IsInSweep a s) is in_sweep_now).0.quiet)

    -- What it leaves to each other seat, of the heap.
    pub others_leave : (x : Lands) (b : ℕ) → b ≢ a → Others z b (view h) (view (state.moved z a s x.move).heap)
    others_leave x b differs = (known.state_leaves z b a s x.move differs has.good x.allowed).heap
