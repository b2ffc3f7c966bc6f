-- Steps of a poll, of a wait and of a leave beside marking: they are made of moves of marking alone. No slot is being filled, and the registers stay.
use Rattle.std.proofs.Common.{◌≡◌, ◌≢◌, ℕ, ◌<◌, Bool, true, false, cond, is_some, List, [], Option, Some, None, refl, sym, ap, subst, ◌∙◌, arith, slice_index, slice_index_or}
use Rattle.gh_mutator_heap.proofs.Vocabulary.{acted, acting, acts, after_gc, after_leave, after_poll, Answer, asks, at_task, Cell, cell_of, Cycle, END, Ever, FillsNone, Heap, Held, Layout, Leaving, MarkFacts, Marking, named, only_polls, Op, Polling, PollStage, PollStageFacts, Processor, read_after_set, REGISTERS, Resumed, Row, RunPhase, seen_word, Shape, StepsOn, takes, Task, TaskFacts, Together, Value, view, Wait, Waiting, WaitStage, WaitStageFacts, WaitState, Wanted, Words}
use Rattle.gh_heap.specs.Moves as heap
use Rattle.gh_marks.specs.Moves as marks
use Rattle.gh_phase.specs.Listing as resume
use Rattle.gh_wbuf.specs.RoomFinding as room
use Rattle.gh_poll.specs.Give as give
use Rattle.gh_poll.specs.Leave as leave
use Rattle.gh_mutator.specs.MarkVocabulary.{StackMarking}
use Rattle.gh_mutator.specs.New as new
use Rattle.gh_poll.specs.Poll as poll
use Rattle.gh_poll.specs.Wait as wait
use Rattle.gh_mutator_heap.proofs.Going.Known.{by_marking, found_there, goes_on, heap_then, Known, processor_then, StepAt, StepOf}

-- No slot is being filled.
-- What a step of a poll leaves: the registers, and of the notes of stacks none says that its goroutine has ended.
record Leaves (p to : Polling) : Type 0 where
  stacks : to.local.stacks ≡ p.local.stacks
  notes : (g : ℕ) → slice_index p.local.scanned g ≢ END → slice_index to.local.scanned g ≢ END

abbrev Same : (p to : Polling) → Type 0
Same p to = (to.local.stacks ≡ p.local.stacks) × (to.local.scanned ≡ p.local.scanned)

leaves_so : (p to : Polling) → Same p to → Leaves p to
leaves_so p to s = record { stacks = s.0; notes = λ g on e. on (ap (λ (ns : List ℕ). slice_index ns g) (sym s.1) ∙ e) }

same_stops : (p : Polling) (g : give.Giving) (stops : ℕ) → Same p (poll.stops_then p g stops)
same_stops p g stops = grind arith

same_phases : (l : Layout) (p : Polling) (stops : ℕ) (phase : Option RunPhase) → Same p (poll.by_phase l p stops phase)
same_phases l p stops phase = grind arith

same_resumed : (l : Layout) (p : Polling) (r : resume.Resuming) (out : Option Resumed) → Same p (poll.after_resume l p r out)
same_resumed l p r out = grind arith

same_room : (p : Polling) (r : room.RoomFinding) (out : Option Held) → Same p (poll.after_room p r out)
same_room p r out = grind arith

module _ (z : Cycle) where
  -- the stack that it has scanned it notes as one of this cycle
  marked_leaves : (p : Polling) (g : ℕ) (m : StackMarking) (out : Option (Unit {0})) → p.local.view.begun ≡ z.number → Leaves p (poll.after_mark p g m out)
  marked_leaves p g m None number = leaves_so p _ (refl, refl)
  marked_leaves p g m (Some y) number = record {
    stacks = refl;
    notes = λ i on. read_after_set (λ (n : ℕ). n ≢ END) p.local.scanned g i p.local.view.begun 0 (λ same e. let few = z.few in absurd (omega (arith, few, number, e))) on;
  }

  poll_leaves : (a : ℕ) (s : Marking) (p : Polling) (q : PollStage) (found : ℕ) → PollStageFacts z a s p.waits p.local q → Leaves p (poll.goes_at z.arena.layout p q found)
  poll_leaves a s p q found x = grind (arith, leaves_so, marked_leaves, same_phases, same_resumed, same_room, same_stops)

  wait_leaves : (a : ℕ) (s : Marking) (w : Waiting) (q : WaitStage) (found : ℕ) → WaitStageFacts z a s w.poll q → Leaves w.poll (wait.goes_at z.arena.layout w q found).poll
  wait_leaves a s w WaitStage.Want found x = leaves_so w.poll _ (refl, refl)
  wait_leaves a s w WaitStage.Polling found x = by (poll.goes z.arena.layout w.poll found) (poll.gives z.arena.layout w.poll found) (poll_leaves a s w.poll w.poll.stage found x.stage_is) where
    by : (p : Polling) (out : Option (Unit {0})) → Leaves w.poll p → Leaves w.poll (wait.after_poll w p out).poll
    by p out k = grind arith
  wait_leaves a s w WaitStage.LoadSwept found x = by (wait.is_later w.wait.known found) where
    by : (later : Bool) → Leaves w.poll (cond later (wait.at_stage w WaitStage.Ended) (wait.polling w)).poll
    by later = grind arith
  wait_leaves a s w WaitStage.Ended found x = leaves_so w.poll _ (refl, refl)

-- an operation that changes nothing in the heap that never frees
pub acted_same : (shapes : List Shape) (e : Ever) (o : Op) → acted shapes e (acting true o false) ≡ e → (b : Bool) → acted shapes e (acting b o false) ≡ e
acted_same shapes e o is b = grind arith

-- no move changes in which object a heap word lies
base_moved : (z : Cycle) (a : ℕ) (s : Marking) (m : marks.Move) → (marks.moved z a s m).extents.base ≡ s.extents.base
base_moved z a s (marks.Place o size pointer noscan g d) = refl
base_moved z a s _ = refl

bases_stay : (z : Cycle) (a : ℕ) (s u : Marking) → marks.Went z a s u → u.extents.base ≡ s.extents.base
bases_stay z a s u marks.stays = refl
bases_stay z a s u (marks.goes t m went may) = base_moved z a t m ∙ bases_stay z a s t went

-- The step, of a processor that only polls.
module _ (k : Known) (z : Cycle) (a : ℕ) (h : Heap) (s : Marking) (m : Processor) (pending : Option Answer) (t : Together z a h s m pending) (l : StepOf z a h m pending) where
  abbrev then : Processor
  then = processor_then k z a h s m pending t l

  abbrev Fills : Type 0
  Fills = (u : Marking) → TaskFacts z a u then.poll then.task → FillsNone a u

  polled : only_polls m.task ≡ true → acted z.arena.shapes h.ever (acts z.arena.layout m (found_there k z a h s m pending t l)) ≡ h.ever → Leaves m.poll then.poll → Fills → StepsOn z a (heap_then k z a h s m pending t l) s then
  polled only is leaves fills = by_marking k z a h s m pending t l is land.then land.went land.words_are (λ o e. absurd (fills land.then facts.task_is o e)) registers on facts where
    land : marks.Steps z a s (asks z.arena.layout m) (λ u. MarkFacts z a u (takes z.arena.layout z.arena.shapes m (s.words (cell_of (asks z.arena.layout m)))))
    land = k.marks.own_step z.arena.shapes z a s m t.marking (k.objects z h s t.heap t.marking t.beside) t.cycle only t.facts

    facts : MarkFacts z a land.then then
    facts = subst (λ (n : ℕ). MarkFacts z a land.then (takes z.arena.layout z.arena.shapes m n)) (ap (λ (w : Words). w (cell_of (asks z.arena.layout m))) t.beside.words) land.after

    on : (g : ℕ) → heap.GoroutineRuns z.arena (view h) a g → land.then.words (Cell.Scanned g) ≢ END
    on g runs e = leaves.notes g (λ noted. goes_on k z a h s m pending t l g runs (sym (t.facts.stacks.noted g runs.of) ∙ noted)) (facts.stacks.noted g runs.of ∙ e)

    registers : (g d : ℕ) → heap.GoroutineRuns z.arena (view h) a g → d < REGISTERS → land.then.registers g d ≡ s.registers g d
    registers g d runs low =
        let was = t.facts.stacks.registers g runs.of (goes_on k z a h s m pending t l g runs) in
        let now = facts.stacks.registers g runs.of (on g runs) in
        now.each d (subst (λ (n : ℕ). d < n) (sym now.whole) low)
        ∙ ap (λ (base : Row). seen_word base (named (slice_index_or (slice_index_or then.poll.local.stacks g []) d Value.Nil))) (bases_stay z a s land.then land.went)
        ∙ ap (λ (rows : List (List Value)). seen_word s.extents.base (named (slice_index_or (slice_index_or rows g []) d Value.Nil))) leaves.stacks
        ∙ sym (was.each d (subst (λ (n : ℕ). d < n) (sym was.whole) low))

-- By tasks.
module _ (z : Cycle) (a : ℕ) (u : Marking) (m : Processor) where
  polled_leaves : (p : Polling) (out : Option (Unit {0})) → Leaves m.poll p → Leaves m.poll (after_poll m p out).poll
  polled_leaves p out x = grind arith

  polled_fills : (p : Polling) (out : Option (Unit {0})) → TaskFacts z a u (after_poll m p out).poll (after_poll m p out).task → FillsNone a u
  polled_fills p out x = grind arith

  gc_leaves : (g : ℕ) (w : Waiting) (out : Option (Unit {0})) → Leaves m.poll w.poll → Leaves m.poll (after_gc m g w out).poll
  gc_leaves g w out x = grind arith

  gc_fills : (g : ℕ) (w : Waiting) (out : Option (Unit {0})) → TaskFacts z a u (after_gc m g w out).poll (after_gc m g w out).task → FillsNone a u
  gc_fills g w out x = grind arith

  new_leaves : (n : Wanted) (w : Waiting) (out : Option (Unit {0})) → Leaves m.poll w.poll → Leaves m.poll (new.after_wait m n w out).poll
  new_leaves n w out x = grind arith

  new_fills : (n : Wanted) (w : Waiting) (out : Option (Unit {0})) → TaskFacts z a u (new.after_wait m n w out).poll (new.after_wait m n w out).task → FillsNone a u
  new_fills n w out x = grind arith

  left_leaves : (x : Leaving) (out : Option (Unit {0})) → Leaves m.poll (after_leave m x out).poll
  left_leaves x out = grind arith

  left_fills : (x : Leaving) (out : Option (Unit {0})) → TaskFacts z a u (after_leave m x out).poll (after_leave m x out).task → FillsNone a u
  left_fills x out f = grind arith

pub poll_step : Known → StepAt Task.Poll
poll_step k z a h s m pending t kn l =
    let n : ℕ = h.words (cell_of (poll.asks m.poll)) in
    polled k z a h s (at_task m Task.Poll) pending t l refl (acted_same z.arena.shapes h.ever Op.Poll refl (is_some (poll.gives z.arena.layout m.poll n)))
    (polled_leaves z a s (at_task m Task.Poll) (poll.goes z.arena.layout m.poll n) (poll.gives z.arena.layout m.poll n) (poll_leaves z a s m.poll m.poll.stage n t.facts.task_is.stage_is))
    (λ u. polled_fills z a u (at_task m Task.Poll) (poll.goes z.arena.layout m.poll n) (poll.gives z.arena.layout m.poll n))

pub gc_step : Known → (g : ℕ) (x : WaitState) → StepAt (Task.Gc g x)
gc_step k g x z a h s m pending t kn l =
    let w : Waiting = wait.waiting x m.poll in
    let n : ℕ = h.words (cell_of (wait.asks w)) in
    polled k z a h s (at_task m (Task.Gc g x)) pending t l refl (acted_same z.arena.shapes h.ever (Op.Gc g) refl (is_some (wait.gives z.arena.layout w n)))
    (gc_leaves z a s (at_task m (Task.Gc g x)) g (wait.goes z.arena.layout w n) (wait.gives z.arena.layout w n) (wait_leaves z a s w x.stage n t.facts.task_is))
    (λ u. gc_fills z a u (at_task m (Task.Gc g x)) g (wait.goes z.arena.layout w n) (wait.gives z.arena.layout w n))

pub wait_step : Known → (v : Wanted) (x : WaitState) → StepAt (Task.New (record { wanted = v; stage = Wait x }))
wait_step k v x z a h s m pending t kn l =
    let w : Waiting = wait.waiting x m.poll in
    let n : ℕ = h.words (cell_of (wait.asks w)) in
    polled k z a h s (at_task m (new.waits v w)) pending t l refl refl
    (new_leaves z a s (at_task m (new.waits v w)) v (wait.goes z.arena.layout w n) (wait.gives z.arena.layout w n) (wait_leaves z a s w x.stage n t.facts.task_is))
    (λ u. new_fills z a u (at_task m (new.waits v w)) v (wait.goes z.arena.layout w n) (wait.gives z.arena.layout w n))

pub leave_step : Known → (x : Leaving) → StepAt (Task.Leave x)
leave_step k x z a h s m pending t kn l =
    let n : ℕ = h.words (cell_of (leave.asks x)) in
    polled k z a h s (at_task m (Task.Leave x)) pending t l refl (acted_same z.arena.shapes h.ever Op.Leave refl (is_some (leave.gives x n)))
    (left_leaves z a s (at_task m (Task.Leave x)) (leave.goes x n) (leave.gives x n))
    (λ u. left_fills z a u (at_task m (Task.Leave x)) (leave.goes x n) (leave.gives x n))
