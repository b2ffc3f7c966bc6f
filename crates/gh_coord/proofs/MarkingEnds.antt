-- The second stop of a cycle and its check, step by step.
use Rattle.std.proofs.Common.{◌≡◌, ℕ, zero, suc, ◌+◌, ◌<◌, ◌≤◌, ◌⊎◌, Bool, true, false, cond, ltb, refl, sym, ap, subst, ◌∙◌, arith, ltb-true, ltb-false}
use Rattle.std.proofs.lemmas.Bool.{leb-true}
use Rattle.gh_coord.proofs.Vocabulary.{after_check, after_close, after_stop_again, All, asks, asks_at, at_stage, buffer_of, by_event, Cell, Check, Close, CloseStage, Coordinating, CoordStage, counted, Done, goes_at, Layout, Load, nat_tests, NotYet, phase_word, StopAgain, StopStage, Store}
use Rattle.gh_base.specs.declared.pack.BufferWord.{BufferWord}
use Rattle.gh_base.specs.declared.pack.Phase.{Phase}
use Rattle.gh_coord.specs.MarkingEnds.{EndsWithNothingLeft, Finds, HasNothingLeft, LeavesMarks, NothingIsLeft, state}
use Rattle.gh_coord.specs.Closing as close
use Rattle.gh_coord.specs.Stopping as stop
use Rattle.gh_coord.specs.Watching as watch
use Rattle.gh_coord.proofs.Stepping.{Run, same_ask}
use Rattle.gh_coord.specs.Vocabulary.{GONE}
use Rattle.gh_coord.specs.declared.watch.WatchStage.{WatchStage}

-- what the tests of the listing say of the words
acked : (stops v : ℕ) → stop.is_acknowledged stops v ≡ true → (v ≡ stops) ⊎ (v ≡ GONE)
acked stops v e = grind arith

stack_wanted : (l : Layout) (cycle g v : ℕ) → watch.is_wanted l cycle (Cell.Scanned g) v ≡ true → cycle ≤ v
stack_wanted l cycle g v e = grind (arith, nat_tests)

left : (b : BufferWord) → watch.is_held_or_empty b ≡ true → HasNothingLeft b
left b e = grind arith

module _ (run : Run) where
  abbrev now : ℕ → Coordinating
  now n = state run.layout run.seat run.gogc run.minheap run.room run.found n

  abbrev Found : (first last : ℕ) → Cell → (ℕ → Type 0) → Type 0
  Found first last at IsSo = Finds run.layout run.seat run.gogc run.minheap run.room run.found first last at IsSo

  abbrev IsAcked : (stops v : ℕ) → Type 0
  IsAcked stops v = (v ≡ stops) ⊎ (v ≡ GONE)

  abbrev IsWanted : (begun : ℕ) → Cell → (v : ℕ) → Type 0
  IsWanted begun at v = watch.is_wanted run.layout begun at v ≡ true

  -- since the world was told to stop, and the first so many have acknowledged that
  record Stopped (stops n actors : ℕ) : Type 0 where
    first : ℕ
    is_before : first < n
    stores : asks run.layout (now first) ≡ Store Cell.Phase (phase_word (record { stops = stops; phase = Phase.Stop }))
    leaves : (m : ℕ) → first < m → m < n → LeavesMarks (asks run.layout (now m))
    each : (i : ℕ) → i < actors → Found first n (Cell.Ack i) (IsAcked stops)

  -- and the first so many words that are watched were found as wanted
  record Looked (stops begun n words : ℕ) : Type 0 where
    first : ℕ
    last : ℕ
    is_before : first < n
    is_by : last ≤ n
    stores : asks run.layout (now first) ≡ Store Cell.Phase (phase_word (record { stops = stops; phase = Phase.Stop }))
    leaves : (m : ℕ) → first < m → m < n → LeavesMarks (asks run.layout (now m))
    acknowledged : (i : ℕ) → i < stop.acks_of run.layout → Found first last (Cell.Ack i) (IsAcked stops)
    each : (i : ℕ) → i < words → Found last n (watch.cell_at run.layout i) (IsWanted begun (watch.cell_at run.layout i))

  abbrev StopKnows : (stops n : ℕ) → StopStage → Type 0
  StopKnows stops n StopStage.StorePhase = Unit {0}
  StopKnows stops n (StopStage.Await i) = Stopped stops n i
  StopKnows stops n StopStage.Ended = ⊥

  abbrev CheckKnows : (stops begun n : ℕ) → WatchStage → Type 0
  CheckKnows stops begun n (WatchStage.Look i) = (i < watch.words_of run.layout) × Looked stops begun n i
  CheckKnows stops begun n (WatchStage.Ended watched) = ⊥

  record StopIs (stops n : ℕ) (st : stop.Stopping) : Type 0 where
    stops_is : st.stops ≡ stops
    knows : StopKnows stops n st.stage

  record CheckIs (stops begun n : ℕ) (x : watch.Watching) : Type 0 where
    cycle_is : x.cycle ≡ begun
    knows : CheckKnows stops begun n x.stage

  abbrev CloseKnows : (stops begun n : ℕ) → CloseStage → Type 0
  CloseKnows stops begun n CloseStage.StorePhase = Unit {0}
  CloseKnows stops begun n CloseStage.Ended = ⊥
  CloseKnows stops begun n _ = Looked stops begun n (watch.words_of run.layout)

  abbrev Knows : (stops begun n : ℕ) → CoordStage → Type 0
  Knows stops begun n (StopAgain st) = StopIs stops n st
  Knows stops begun n (Check x) = CheckIs stops begun n x
  Knows stops begun n (Close cl) = CloseKnows stops begun n cl.stage
  Knows stops begun n _ = Unit {0}

  abbrev Has : ℕ → Coordinating → Type 0
  Has n s = Knows s.stops s.begun n s.stage

  -- what was found is found by any later step
  later : (first n : ℕ) (at : Cell) (IsSo : ℕ → Type 0) → Found first n at IsSo → Found first (suc n) at IsSo
  later first n at IsSo f = grind arith

  leaves_on : (first n : ℕ) → ((m : ℕ) → first < m → m < n → LeavesMarks (asks run.layout (now m))) → LeavesMarks (asks run.layout (now n)) → (m : ℕ) → first < m → m < suc n → LeavesMarks (asks run.layout (now m))
  leaves_on first n before one m behind lt = grind arith

  -- one more of a row
  one_more : (P : ℕ → Type 0) (i : ℕ) → ((j : ℕ) → j < i → P j) → P i → (j : ℕ) → j < i + 1 → P j
  one_more P i before one j lt = grind arith

  module _ (stops n : ℕ) where
    waits : (i : ℕ) → Stopped stops n i → LeavesMarks (asks run.layout (now n)) → Stopped stops (suc n) i
    waits i k one = let before : k.first < n = k.is_before in record { first = k.first; is_before = omega arith; stores = k.stores; leaves = leaves_on k.first n k.leaves one; each = λ j lt. later k.first n (Cell.Ack j) (IsAcked stops) (k.each j lt) }

    finds_ack : (i : ℕ) → Stopped stops n i → asks run.layout (now n) ≡ Load (Cell.Ack i) → stop.is_acknowledged stops (run.found n) ≡ true → Stopped stops (suc n) (i + 1)
    unfolding waits
    finds_ack i k loads is =
        let before : k.first < n = k.is_before in
        let on = waits i k (subst LeavesMarks (sym loads) tt) in
        record {
          first = k.first;
          is_before = omega arith;
          stores = k.stores;
          leaves = on.leaves;
          each = one_more (λ j. Found k.first (suc n) (Cell.Ack j) (IsAcked stops)) i on.each (record { by = n; is_behind = omega arith; is_before = omega arith; loads = loads; is_so = acked stops (run.found n) is });
        }

  module _ (stops begun n : ℕ) where
    looks_on : (i : ℕ) → Looked stops begun n i → LeavesMarks (asks run.layout (now n)) → Looked stops begun (suc n) i
    looks_on i k one =
        let before : k.first < n = k.is_before in
        let by : k.last ≤ n = k.is_by in
        record {
          first = k.first;
          last = k.last;
          is_before = omega arith;
          is_by = omega arith;
          stores = k.stores;
          leaves = leaves_on k.first n k.leaves one;
          acknowledged = k.acknowledged;
          each = λ j lt. later k.last n (watch.cell_at run.layout j) (IsWanted begun (watch.cell_at run.layout j)) (k.each j lt);
        }

    finds_word : (i : ℕ) → Looked stops begun n i → asks run.layout (now n) ≡ Load (watch.cell_at run.layout i) → watch.is_wanted run.layout begun (watch.cell_at run.layout i) (run.found n) ≡ true → Looked stops begun (suc n) (i + 1)
    unfolding looks_on
    finds_word i k loads is =
        let on = looks_on i k (subst LeavesMarks (sym loads) tt) in
        let by : k.last ≤ n = k.is_by in
        record {
          first = k.first;
          last = k.last;
          is_before = on.is_before;
          is_by = on.is_by;
          stores = k.stores;
          leaves = on.leaves;
          acknowledged = k.acknowledged;
          each = one_more (λ j. Found k.last (suc n) (watch.cell_at run.layout j) (IsWanted begun (watch.cell_at run.layout j))) i on.each (record { by = n; is_behind = by; is_before = omega arith; loads = loads; is_so = is });
        }

  module _ (n : ℕ) (s : Coordinating) where
    -- the end of marking
    close_step : (cl : close.Closing) (stage : CloseStage) (v : ℕ) → cl.stage ≡ stage → asks run.layout (now n) ≡ close.asks_at cl stage → CloseKnows s.stops s.begun n stage → Has (suc n) (after_close (at_stage s (Close (close.goes_at cl stage v))) (close.given (close.goes_at cl stage v)))
    close_step cl stage v e asked k = grind (arith, looks_on)

    -- the second stop
    module _ (st : stop.Stopping) (numbered : st.stops ≡ s.stops) where
      abbrev stopped : StopStage → Coordinating
      stopped stage = after_stop_again (at_stage s (StopAgain (record st { stage = stage }))) (stop.given_at stage)

      awaits : (i : ℕ) → Stopped s.stops (suc n) i → Has (suc n) (stopped (StopStage.Await i))
      awaits i k = record { stops_is = numbered; knows = k }

      checks : (i : ℕ) → stop.acks_of run.layout ≤ i → Stopped s.stops (suc n) i → Has (suc n) (stopped StopStage.Ended)
      checks i most k = record {
        cycle_is = refl;
        knows = (omega arith, record { first = k.first; last = suc n; is_before = k.is_before; is_by = omega arith; stores = k.stores; leaves = k.leaves; acknowledged = λ j lt. k.each j (omega arith); each = λ j lt. absurd (omega arith) });
      }

      await_step : (i v : ℕ) → v ≡ run.found n → asks run.layout (now n) ≡ Load (Cell.Ack i) → Stopped s.stops n i → (is more : Bool) → stop.is_acknowledged st.stops v ≡ is → ltb (i + 1) (stop.acks_of run.layout) ≡ more →
          Has (suc n) (stopped (cond is (cond more (StopStage.Await (i + 1)) StopStage.Ended) (StopStage.Await i)))
      await_step i v told loads k is more e f = by is more e f where
        more_are : stop.is_acknowledged st.stops v ≡ true → Stopped s.stops (suc n) (i + 1)
        more_are a = finds_ack s.stops n i k loads (ap (λ (x : ℕ). stop.is_acknowledged x (run.found n)) (sym numbered) ∙ ap (λ (x : ℕ). stop.is_acknowledged st.stops x) (sym told) ∙ a)

        by : (is more : Bool) → stop.is_acknowledged st.stops v ≡ is → ltb (i + 1) (stop.acks_of run.layout) ≡ more → Has (suc n) (stopped (cond is (cond more (StopStage.Await (i + 1)) StopStage.Ended) (StopStage.Await i)))
        by true true e f = awaits (i + 1) (more_are e)
        by true false e f = checks (i + 1) (ltb-false _ _ f) (more_are e)
        by false more e f = awaits i (waits s.stops n i k (subst LeavesMarks (sym loads) tt))

      again_step : (stage : StopStage) (v : ℕ) → v ≡ run.found n → asks run.layout (now n) ≡ stop.asks_at st stage → StopKnows s.stops n stage →
          Has (suc n) (after_stop_again (at_stage s (StopAgain (stop.goes_at run.layout st stage v))) (stop.given (stop.goes_at run.layout st stage v)))
      again_step stage v told asked k = grind (arith, await_step, awaits)

    -- the check
    module _ (x : watch.Watching) (numbered : x.cycle ≡ s.begun) where
      abbrev checked : WatchStage → Coordinating
      checked stage = after_check (at_stage s (Check (record x { stage = stage }))) (watch.given_at stage)

      look_step : (i v : ℕ) → v ≡ run.found n → asks run.layout (now n) ≡ Load (watch.cell_at run.layout i) → Looked s.stops s.begun n i → i < watch.words_of run.layout → (is more : Bool) → watch.is_wanted run.layout x.cycle (watch.cell_at run.layout i) v ≡ is → ltb (i + 1) (watch.words_of run.layout) ≡ more →
          Has (suc n) (checked (cond is (cond more (WatchStage.Look (i + 1)) (WatchStage.Ended All)) (WatchStage.Ended NotYet)))
      look_step i v told loads k within is more e f = by is more e f where
        finds : watch.is_wanted run.layout x.cycle (watch.cell_at run.layout i) v ≡ true → Looked s.stops s.begun (suc n) (i + 1)
        finds a =
            finds_word s.stops s.begun n i k loads
            (ap (λ (y : ℕ). watch.is_wanted run.layout y (watch.cell_at run.layout i) (run.found n)) (sym numbered) ∙ ap (λ (y : ℕ). watch.is_wanted run.layout x.cycle (watch.cell_at run.layout i) y) (sym told) ∙ a)

        by : (is more : Bool) → watch.is_wanted run.layout x.cycle (watch.cell_at run.layout i) v ≡ is → ltb (i + 1) (watch.words_of run.layout) ≡ more → Has (suc n) (checked (cond is (cond more (WatchStage.Look (i + 1)) (WatchStage.Ended All)) (WatchStage.Ended NotYet)))
        by true true e f = record { cycle_is = numbered; knows = (ltb-true _ _ f, finds e) }
        by true false e f =
            let last : watch.words_of run.layout ≤ i + 1 = ltb-false _ _ f in
            let end : i + 1 ≡ watch.words_of run.layout = omega arith in
            subst (λ (j : ℕ). Looked s.stops s.begun (suc n) j) end (finds e)
        by false more e f = tt

      check_step : (stage : WatchStage) (v : ℕ) → v ≡ run.found n → asks run.layout (now n) ≡ watch.asks_at run.layout stage → CheckKnows s.stops s.begun n stage →
          Has (suc n) (after_check (at_stage s (Check (watch.goes_at run.layout x stage v))) (watch.given (watch.goes_at run.layout x stage v)))
      check_step stage v told asked k = grind (arith, look_step)

    step_at : (stage : CoordStage) (v : ℕ) → v ≡ run.found n → s.stage ≡ stage → asks run.layout (now n) ≡ asks_at run.layout s stage → Knows s.stops s.begun n stage → Has (suc n) (goes_at run.layout s stage v)
    step_at (StopAgain st) v told is asked k = again_step st k.stops_is st.stage v told asked k.knows
    step_at (Check x) v told is asked k = check_step x k.cycle_is x.stage v told asked k.knows
    step_at (Close cl) v told is asked k = close_step cl cl.stage v refl asked k
    step_at Done v told is asked k = subst (λ (stage : CoordStage). Knows s.stops s.begun (suc n) stage) (sym is) tt
    step_at q v told is asked k = by_event run.layout s v (Has (suc n)) q (λ e may. grind arith)

  has : (n : ℕ) → Has n (now n)
  has zero = tt
  has (suc n) =
      let s : Coordinating = now n in
      step_at n (counted s) s.stage (run.found n) refl refl (sym (same_ask run.layout s s.stage)) (has n)

  -- the words that are watched, each by its name
  module _ (n : ℕ) (k : Looked (now n).stops (now n).begun n (watch.words_of run.layout)) where
    so : (first last : ℕ) (at : Cell) (P Q : ℕ → Type 0) → ((v : ℕ) → P v → Q v) → Found first last at P → Found first last at Q
    so first last at P Q to f = grind arith

    abbrev begun : ℕ
    begun = (now n).begun

    abbrev Saw : Cell → Type 0
    Saw at = Found k.last n at (IsWanted begun at)

    stack_at : (i g : ℕ) → i ≡ g + 1 → g < run.layout.goroutines → watch.cell_at run.layout i ≡ Cell.Scanned g
    stack_at i g is lt = grind (arith, nat_tests)

    buffer_at : (i b : ℕ) → i ≡ run.layout.goroutines + b + 1 → watch.cell_at run.layout i ≡ Cell.Buffer b
    buffer_at i b is = grind (arith, nat_tests)

    is_clean : NothingIsLeft run.layout run.seat run.gogc run.minheap run.room run.found n
    is_clean = record {
      stop = k.first;
      stopped = k.last;
      is_before = k.is_before;
      stops = k.stores;
      acknowledged = k.acknowledged;
      globals = so k.last n Cell.Gcur (IsWanted begun Cell.Gcur) (λ v. run.layout.globals ≤ v) (λ v e. leb-true _ _ e) (k.each 0 (omega arith));
      stacks = λ g lt. so k.last n (Cell.Scanned g) (IsWanted begun (Cell.Scanned g)) (λ v. begun ≤ v) (λ v e. stack_wanted run.layout begun g v e) (subst Saw (stack_at (g + 1) g refl lt) (k.each (g + 1) (omega arith)));
      buffers = λ i lt. so k.last n (Cell.Buffer i) (IsWanted begun (Cell.Buffer i)) (λ v. HasNothingLeft (buffer_of v)) (λ v e. left (buffer_of v) e) (subst Saw (buffer_at (run.layout.goroutines + i + 1) i refl) (k.each (run.layout.goroutines + i + 1) (omega arith)));
      leaves = k.leaves;
    }

module _ (run : Run) (n g : ℕ) (s : Coordinating) where
  abbrev Checked : Type 0
  Checked = Looked run s.stops s.begun n (watch.words_of run.layout)

  is_checked : (stage : CoordStage) → Knows run s.stops s.begun n stage → asks_at run.layout s stage ≡ Store Cell.Gen g → Checked
  is_checked stage k e = grind arith

pub marking_ends_clean : EndsWithNothingLeft
marking_ends_clean l seat gogc minheap room found n g e =
    let run : Run = record { layout = l; seat = seat; gogc = gogc; minheap = minheap; room = room; found = found } in
    let s : Coordinating = now run n in
    is_clean run n (is_checked run n g s s.stage (has run n) e)
