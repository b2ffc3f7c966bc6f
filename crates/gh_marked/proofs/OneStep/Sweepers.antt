-- The sweeps that actors run: what is known of one lasts under the moves of others, and goes on with its own steps.
use Rattle.std.proofs.Common.{◌≡◌, ◌≢◌, ℕ, ◌+◌, ◌<◌, Bool, true, false, cond, refl, sym, ap, subst, ◌∙◌, arith, Option, Some, None}
use Rattle.gh_marked.proofs.Vocabulary.{Arena, Ask, BeginsSweep, Cell, cell_of, Deed, generation_of, GoesOn, Head, IsInSweep, Known, on_from, page_of, seats_of, SeatSweepsNothing, State, StateGood, Sweeping, SweepRuns, SweepStage}
use Rattle.gh_heap.specs.Moves as heap
use Rattle.gh_state.specs.Moves.{Count, Move, moved, Others, Sweep}
use Rattle.gh_sweep.specs.Listing as sweep
use Rattle.gh_sweep.specs.Sweepers.{move_at, move_of}

module _ (known : Known) (z : Arena) (a : ℕ) where
  -- Under the moves of others.

  pub rests_last : (s t : State) → Others z a s t → SeatSweepsNothing a s → SeatSweepsNothing a t
  rests_last s t o r = record { none = λ p is. r.none p (o.sweep.back p is); told = o.sweep.due ∙ r.told }

  pub lasts : (s t : State) (x : Option Sweeping) → Others z a s t → IsInSweep a s x → IsInSweep a t x
  lasts s t None o r = rests_last s t o r
  lasts s t (Some m) o r = (known.sweeps.last z a s t m o r.0, r.1)

  -- where a cycle is under way it runs none
  pub none_under_way : (s : State) → (s.told ≡ None → ⊥) → (x : Option Sweeping) → IsInSweep a s x → x ≡ None
  none_under_way s under x r = grind arith

  -- Under its own that are none of a sweep.

  pub rests_on : (s : State) (m : heap.Move) → SeatSweepsNothing a s → SeatSweepsNothing a (moved z a s (Deed m))
  rests_on s m r = record { none = r.none; told = r.told }

  pub rests_counted : (s : State) → SeatSweepsNothing a s → SeatSweepsNothing a (moved z a s Count)
  rests_counted s r = record { none = r.none; told = r.told }

  -- It begins one where it has found the head of an unswept span.
  pub begins : (t : State) → StateGood z t → SeatSweepsNothing a t → (generation : ℕ) (step : Ask) (found : ℕ) (m : Sweeping) → generation ≡ t.heap.words Cell.Gen → found ≡ t.heap.words (cell_of step) → BeginsSweep generation step found m → IsInSweep a t (Some m)
  begins t good rest generation step found m number found_is b = (
    subst (SweepRuns a t) (sym b.sweep_is) (known.sweeps.opens z a t b.page b.head good told rest head unswept),
    ap (λ (y : Sweeping). sweep.is_busy y.stage) b.sweep_is,
  ) where
    head : page_of (t.heap.words (Cell.Page b.page)) ≡ Head b.head
    head = ap page_of (sym (found_is ∙ ap (λ (q : Ask). t.heap.words (cell_of q)) b.step_is)) ∙ b.head_is

    differs : b.head.number ≢ t.heap.words Cell.Gen
    differs same = let n = b.number in omega (arith, n, same, number)

    told : t.told ≡ None
    told = (known.walkers.waits z t b.page b.head good head differs).2

    unswept : b.head.number + 2 ≡ generation_of t.end
    unswept = b.number ∙ (number ∙ good.sweep.generation)

  pub begins_or_rests : (t : State) → StateGood z t → SeatSweepsNothing a t → (generation : ℕ) (step : Ask) (found : ℕ) (x : Option Sweeping) → generation ≡ t.heap.words Cell.Gen → found ≡ t.heap.words (cell_of step) → ((m : Sweeping) → x ≡ Some m → BeginsSweep generation step found m) → IsInSweep a t x
  begins_or_rests t good rest generation step found None number found_is b = rest
  begins_or_rests t good rest generation step found (Some m) number found_is b = begins t good rest generation step found m number found_is (b m refl)

  -- A step of the sweep itself.
  module _ (s : State) (good : StateGood z s) (seat : a < seats_of z.layout) (m : Sweeping) (is : SweepRuns a s m × (sweep.is_busy m.stage ≡ true)) (found : ℕ) (found_is : found ≡ s.heap.words (cell_of (sweep.asks z.layout m))) where
    abbrev pub move : Move
    move = Sweep (move_of m found)

    abbrev pub then : State
    then = moved z a s move

    pub goes_on : GoesOn z a s m found
    goes_on = subst (GoesOn z a s m) (sym found_is) (known.sweeps.own z a s m good seat is.0 is.1)

    pub good_then : StateGood z then
    good_then = known.keeps z a s move good goes_on.may

    pub sweeps_on : (x : Option Sweeping) → x ≡ on_from m found → IsInSweep a then x
    sweeps_on x same = subst (IsInSweep a then) (sym same) (go (sweep.is_busy (sweep.goes m found).stage) refl) where
      go : (b : Bool) → sweep.is_busy (sweep.goes m found).stage ≡ b → IsInSweep a then (cond b (Some (sweep.goes m found)) None)
      go true y = (goes_on.runs, y)
      go false y = known.sweeps.rests a then (sweep.goes m found) goes_on.runs y

  -- What its steps leave: the bytes of slots, the objects of since, and what was placed and not counted.

  pub record RowsStay (s t : State) : Type 0 where
    pub slot : t.slot ≡ s.slot
    pub since : t.since ≡ s.since
    pub pend : t.pend ≡ s.pend

  pub rows_stay : (s : State) (m : Sweeping) (q : SweepStage) (found : ℕ) → RowsStay s (moved z a s (Sweep (move_at m q found)))
  rows_stay s m q found = grind arith

  -- The end, and whether a cycle is under way, stay under all moves.
  pub end_stays : (s : State) (m : Move) → ((moved z a s m).end ≡ s.end) × ((moved z a s m).told ≡ s.told)
  end_stays s m = grind arith
