-- Steps of workers and of the coordinator outside of marking: they are those of sweeps, or write no row of which anything is said of the heap, its spans, stacks and buffers.
use Rattle.std.proofs.Common.{◌≡◌, ◌⊎◌, ℕ, ◌<◌, ◌≤◌, ◌==◌, Bool, true, false, refl, sym, ap, subst, ◌∙◌, arith, List, ◌∷◌, None, ◌≢◌, ◌↔◌, Option, Some}
use Rattle.std.proofs.lemmas.Bool.{eqb-true}
use Rattle.gh_holds.proofs.Vocabulary.{Actor, actors_after, Arena, arena, Ask, Cell, cell_of, effect, END, Entry, Ever, ever_stays, Footprint, FootprintsHold, Freeing, GoesOn, HasState, Heap, IsAsideCell, IsBounded, IsHeapOf, IsInSweep, IsOff, Known, Laying, Layout, Legal, MarksNothing, nat_tests, NobodyMarks, on_from, Op, other, Others, Processor, processor_at, Quiet, Right, Row, row_of, seats_of, SeatSweepsNothing, Setup, State, state_stays, StateGood, sweep_of, Sweeping, SweepStage, those, uncounted, view, Words, Writes}
use Rattle.gh_base.specs.Footprints as row
use Rattle.gh_heap.specs.Moves.{IsQuiet}
use Rattle.gh_state.specs.Moves as state
use Rattle.gh_state.specs.Moves.{Deed}
use Rattle.gh_sweep.specs.Listing as sweep
use Rattle.gh_marked.proofs.OneStep.Moves.{moves_on}
use Rattle.gh_marked.proofs.OneStep.Sweepers as sweepers
use Rattle.gh_marked.proofs.OneStep.Sweepers.{rests_on}

-- The rows that a step beside the heap may write: of no other is anything said of the heap, its spans and stacks. It may be on marks, buffers and counts.
abbrev pub beside_rows : Footprint
beside_rows row.Lock = false
beside_rows row.Gen = false
beside_rows row.Page = false
beside_rows row.Alloc = false
beside_rows row.Bitmap = false
beside_rows row.Birth = false
beside_rows row.Field = false
beside_rows row.Global = false
beside_rows row.Heap = false
beside_rows row.Scanned = false
beside_rows _ = true

-- but for those of marks and buffers
abbrev pub aside_rows : Footprint
aside_rows row.Mark = false
aside_rows row.Buffer = false
aside_rows r = beside_rows r

-- and but for the counts of the sweep and the cursor
abbrev pub telling_rows : Footprint
telling_rows row.Tally = false
telling_rows row.Live = false
telling_rows row.Gcur = false
telling_rows r = aside_rows r

-- those that a sweep may write: none of stacks, births, globals and buffers
abbrev pub spans_rows : Footprint
spans_rows row.Scanned = false
spans_rows row.Birth = false
spans_rows row.Global = false
spans_rows row.Buffer = false
spans_rows _ = true

abbrev pub IsBeside : Ask → Type 0
IsBeside ask = Writes beside_rows ask

abbrev pub IsAside : Ask → Type 0
IsAside ask = Writes aside_rows ask

abbrev pub TellsNothing : Ask → Type 0
TellsNothing ask = Writes telling_rows ask

abbrev pub IsOfSpans : Ask → Type 0
IsOfSpans ask = Writes spans_rows ask

quiet_cell : (c : Cell) → beside_rows (row_of c) ≡ true → IsAsideCell c
quiet_cell c is = grind arith

pub quiet_of : (ask : Ask) → IsBeside ask → IsQuiet ask
quiet_of ask is = grind (arith, quiet_cell)

sweeps_spans : (l : Layout) (m : Sweeping) (p : SweepStage) → IsOfSpans (sweep.asks_at l m p)
sweeps_spans l m p = grind arith

module _ (k : FootprintsHold) (ask : Ask) (tells : TellsNothing ask) where
  pub beside_of : IsBeside ask
  beside_of = k.among telling_rows beside_rows ask refl tells

  pub keeps_buffers : (w : Words) (i : ℕ) → effect w ask (Cell.Buffer i) ≡ w (Cell.Buffer i)
  keeps_buffers w i = k.leaves telling_rows ask w (Cell.Buffer i) tells refl

module _ (setup : Setup) (known : Known) where
  abbrev z : Arena
  z = arena setup

  -- One entry more of another than a processor.
  module _ (e : Entry Op) (es : List (Entry Op)) (legal : Legal (those setup) (e ∷ es)) (ge : setup.layout.procs ≤ e.actor) (has : HasState setup es) where
    abbrev s : State
    s = has.state

    abbrev h : Heap
    h = has.state.heap

    abbrev a : ℕ
    a = e.actor

    -- the sweep that the actor runs, before and behind it
    abbrev pub swept_before : Option Sweeping
    swept_before = sweep_of (actors_after z setup.pacing setup.may es a)

    abbrev pub swept_then : Option Sweeping
    swept_then = sweep_of (actors_after z setup.pacing setup.may (e ∷ es) a)

    -- what the step is, and what it leaves
    pub record Lands : Type 0 where
      pub move : state.Move
      pub allowed : state.May z a s move
      pub words_are : (state.moved z a s move).heap.words ≡ effect h.words e.ask
      pub ever_is : (state.moved z a s move).heap.ever ≡ h.ever
      pub right : Right a (view h) false (λ p. false) None → Right a (view (state.moved z a s move).heap) false (λ p. false) None
      pub scanned : (i : ℕ) → (state.moved z a s move).heap.words (Cell.Scanned i) ≡ h.words (Cell.Scanned i)
      pub global : (i : ℕ) → (state.moved z a s move).heap.words (Cell.Global i) ≡ h.words (Cell.Global i)
      pub birth : (i : ℕ) → (state.moved z a s move).heap.words (Cell.Birth i) ≡ h.words (Cell.Birth i)
      pub pend : (state.moved z a s move).pend ≡ s.pend
      pub sweeps : IsInSweep a (state.moved z a s move) swept_then

    pub seat : a < seats_of setup.layout
    seat = legal.1.actor

    pub in_sweep : IsInSweep a s swept_before
    in_sweep = has.sweeps a seat

    -- A step that is none of a sweep: between two cycles, and while spans are swept, it leaves what the sweeps tell.
    module _ (none : swept_before ≡ None) (aside : IsBeside e.ask) (leaves : s.told ≡ None → TellsNothing e.ask) where
      abbrev pub quiet_move : state.Move
      quiet_move = Deed (Quiet e.ask)

      abbrev pub quiet_state : State
      quiet_state = state.moved z a s quiet_move

      pub quiet_allowed : state.May z a s quiet_move
      quiet_allowed = record {
        seat = legal.1.actor;
        may = quiet_of e.ask aside;
        counts = record {
          heap = known.footprints.leaves beside_rows e.ask h.words Cell.Heap aside refl;
          tally = λ over. known.footprints.leaves telling_rows e.ask h.words Cell.Tally (leaves over) refl;
          live = λ over. known.footprints.leaves telling_rows e.ask h.words Cell.Live (leaves over) refl;
          marks = λ over i. known.footprints.leaves telling_rows e.ask h.words (Cell.Mark i) (leaves over) refl;
        };
      }

      pub quiet_good : StateGood z quiet_state
      quiet_good = known.keeps z a s quiet_move has.good quiet_allowed

      pub quiet_rests : SeatSweepsNothing a quiet_state
      quiet_rests = rests_on known z a s (Quiet e.ask) (subst (IsInSweep a s) none in_sweep)

      -- it runs none then either, or begins one
      abbrev pub by_quiet : IsInSweep a quiet_state swept_then → Lands
      by_quiet sweeps = record {
        move = quiet_move;
        allowed = quiet_allowed;
        words_are = refl;
        ever_is = refl;
        right = λ r. record { locked = r.locked; holds = r.holds; laying = r.laying; freeing = r.freeing };
        scanned = λ i. known.footprints.leaves beside_rows e.ask h.words (Cell.Scanned i) aside refl;
        global = λ i. known.footprints.leaves beside_rows e.ask h.words (Cell.Global i) aside refl;
        birth = λ i. known.footprints.leaves beside_rows e.ask h.words (Cell.Birth i) aside refl;
        pend = refl;
        sweeps = sweeps;
      }

      abbrev pub by_quiet_none : swept_then ≡ None → Lands
      by_quiet_none still = by_quiet (subst (IsInSweep a quiet_state) (sym still) quiet_rests)

    -- A step of the sweep that it runs.
    module _ (m : Sweeping) (is : swept_before ≡ Some m) (asks_is : e.ask ≡ sweep.asks setup.layout m) (then_is : swept_then ≡ on_from m e.found) where
      pub runs : IsInSweep a s (Some m)
      runs = subst (IsInSweep a s) is in_sweep

      pub found_is : e.found ≡ h.words (cell_of (sweep.asks setup.layout m))
      found_is = grind arith

      abbrev pub sweep_move : state.Move
      sweep_move = sweepers.move known z a s has.good seat m runs e.found found_is

      abbrev pub sweep_state : State
      sweep_state = state.moved z a s sweep_move

      pub sweep_goes : GoesOn z a s m e.found
      sweep_goes = sweepers.goes_on known z a s has.good seat m runs e.found found_is

      pub sweep_words : sweep_state.heap.words ≡ effect h.words e.ask
      sweep_words = sweep_goes.words_are ∙ ap (effect h.words) (sym asks_is)

      pub only : IsOfSpans e.ask
      only = subst IsOfSpans (sym asks_is) (sweeps_spans setup.layout m m.stage)

      abbrev pub by_sweep : Lands
      by_sweep = record {
        move = sweep_move;
        allowed = sweep_goes.may;
        words_are = sweep_words;
        ever_is = sweep_goes.keeps.ever;
        right = λ r. record {
          locked = ap (λ (x : ℕ → Bool). x a) sweep_goes.keeps.locked ∙ r.locked;
          holds = λ p. ap (λ (x : ℕ → ℕ → Bool). x a p) sweep_goes.keeps.holds ∙ r.holds p;
          laying = ap (λ (x : ℕ → Option Laying). x a) sweep_goes.keeps.laying ∙ r.laying;
          freeing = ap (λ (x : ℕ → Option Freeing). x a) sweep_goes.keeps.freeing ∙ r.freeing;
        };
        scanned = λ i. ap (λ (w : Words). w (Cell.Scanned i)) sweep_words ∙ known.footprints.leaves spans_rows e.ask h.words (Cell.Scanned i) only refl;
        global = λ i. ap (λ (w : Words). w (Cell.Global i)) sweep_words ∙ known.footprints.leaves spans_rows e.ask h.words (Cell.Global i) only refl;
        birth = λ i. ap (λ (w : Words). w (Cell.Birth i)) sweep_words ∙ known.footprints.leaves spans_rows e.ask h.words (Cell.Birth i) only refl;
        pend = (sweepers.rows_stay known z a s m m.stage e.found).pend;
        sweeps = sweepers.sweeps_on known z a s has.good seat m runs e.found found_is swept_then then_is;
      }

      pub sweep_buffers : (b : ℕ) → sweep_state.heap.words (Cell.Buffer b) ≡ h.words (Cell.Buffer b)
      sweep_buffers b = ap (λ (w : Words). w (Cell.Buffer b)) sweep_words ∙ known.footprints.leaves spans_rows e.ask h.words (Cell.Buffer b) only refl

    -- The state behind it.
    module _ (x : Lands) where
      abbrev pub then : State
      then = state.moved z a s x.move

      pub others_leave : (b : ℕ) → b ≢ a → Others z b (view h) (view then.heap)
      others_leave b differs = (known.state_leaves z b a s x.move differs has.good x.allowed).heap

      pub of_list : IsHeapOf setup (e ∷ es) then.heap
      of_list = moves_on setup known e es h has.of_list has.good.heap then.heap others_leave (record {
        words_are = x.words_are ∙ ap (λ (w : Words). effect w e.ask) has.of_list.words_are;
        ever_is = x.ever_is ∙ (has.of_list.ever_is ∙ sym (ever_stays setup known.points e es legal ge));
        bounded = subst (IsBounded z) (sym x.ever_is) has.of_list.bounded;
        stacks = λ g. subst (λ (v : Ever). (then.heap.words (Cell.Scanned g) ≡ END) ↔ (v.ended g ≡ true)) (sym x.ever_is) ((λ y. (has.of_list.stacks g).0 (sym (x.scanned g) ∙ y)), (λ y. x.scanned g ∙ (has.of_list.stacks g).1 y));
        others_stacks = λ b g differs its. x.scanned g;
        globals = λ i le. x.global i ∙ has.of_list.globals i le;
        own = λ lt. absurd (omega (arith, lt, ge));
        right = λ le. x.right (has.of_list.others e.actor le);
      })

      -- each processor is as it was
      pub was_there : (b : ℕ) → b < setup.layout.procs → processor_at setup (e ∷ es) b ≡ processor_at setup es b
      was_there b lt = state_stays setup e es b apart where
        apart : (e.actor == b) ≡ false
        apart = grind arith

      pub good_then : StateGood z then
      good_then = known.keeps z a s x.move has.good x.allowed

      pub sweeps_then : (b : ℕ) → b < seats_of setup.layout → IsInSweep b then (sweep_of (actors_after z setup.pacing setup.may (e ∷ es) b))
      sweeps_then b less = go (a == b) refl where
        go : (y : Bool) → (a == b) ≡ y → IsInSweep b then (sweep_of (actors_after z setup.pacing setup.may (e ∷ es) b))
        go true y = subst (λ (n : ℕ). IsInSweep n then (sweep_of (actors_after z setup.pacing setup.may (e ∷ es) n))) (eqb-true a b y) x.sweeps
        go false y = subst (λ (q : Actor). IsInSweep b then (sweep_of q)) (sym (other setup e es b y)) (sweepers.lasts known z b s then (sweep_of (actors_after z setup.pacing setup.may es b)) (known.state_leaves z b a s x.move (λ same. absurd (grind (arith, nat_tests))) has.good x.allowed) (has.sweeps b less))

      abbrev pub has_then : HasState setup (e ∷ es)
      has_then = record {
        state = then;
        of_list = of_list;
        good = good_then;
        placing = λ b lt. ap (λ (r : Row). r b) x.pend ∙ (has.placing b lt ∙ ap (λ (m : Processor). uncounted m.task) (sym (was_there b lt)));
        others_place = λ b le. ap (λ (r : Row). r b) x.pend ∙ has.others_place b le;
        sweeps = sweeps_then;
      }

      -- nobody marks still, where it leaves the buffers
      pub nobody_marks : ((b : ℕ) → then.heap.words (Cell.Buffer b) ≡ h.words (Cell.Buffer b)) → (cycle then_cycle : ℕ) → then_cycle ≡ cycle → NobodyMarks setup es cycle h.words → NobodyMarks setup (e ∷ es) then_cycle then.heap.words
      nobody_marks buffers cycle then_cycle same y = record {
        buffers = λ b. buffers b ∙ y.buffers b;
        stacks = λ g. subst (λ (n : ℕ). (n < then_cycle) ⊎ (n ≡ END)) (sym (x.scanned g)) (subst (λ (n : ℕ). (h.words (Cell.Scanned g) < n) ⊎ (h.words (Cell.Scanned g) ≡ END)) (sym same) (y.stacks g));
        processors = λ b lt. subst MarksNothing (sym (was_there b lt)) (y.processors b lt);
      }

  -- No cycle is under way, and what is swept stays so.
  module _ (e : Entry Op) (es : List (Entry Op)) (legal : Legal (those setup) (e ∷ es)) (ge : setup.layout.procs ≤ e.actor) (cycle page : ℕ) (q : IsOff setup es cycle page) (x : Lands e es legal ge q.has) where
    abbrev pub off_then : ((b : ℕ) → (then e es legal ge q.has x).heap.words (Cell.Buffer b) ≡ q.has.state.heap.words (Cell.Buffer b)) → (later : ℕ) → later ≡ cycle → IsOff setup (e ∷ es) later page
    off_then buffers later same = record {
      has = has_then e es legal ge q.has x;
      over = (sweepers.end_stays known z e.actor q.has.state x.move).1 ∙ q.over;
      passed = known.walkers.own z e.actor q.has.state x.move page q.has.good x.allowed q.passed;
      nobody = nobody_marks e es legal ge q.has x buffers cycle later same q.nobody;
    }
