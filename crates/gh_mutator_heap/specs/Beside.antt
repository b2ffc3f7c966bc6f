-- A processor that goes on while a cycle is marked: each of its steps is one of the heap and one of marking at once, and the two states belong together behind it, with what is known of the processor by its task.
use Rattle.std.specs.Prelude.{◌≡◌, ℕ, true, false, Option, None}
use Rattle.gh_mutator_heap.specs.Vocabulary.{Answer, asks, begins, cell_of, Good, Heap, is_busy_at, Op, Processor, sweep_in, takes, Task, view}
use Rattle.gh_base.specs.declared.cell.Cell.{Cell}
use Rattle.gh_base.specs.declared.pack.TheConstants.{END}
use Rattle.gh_cycle.specs.Beside.{IsBeside}
use Rattle.gh_cycle.specs.Reached.{IsBounded}
use Rattle.gh_heap.specs.Moves as heap
use Rattle.gh_marks.specs.Colours.{Cycle, Shared as Marking}
use Rattle.gh_marks.specs.Good.{Good as MarkingGood}
use Rattle.gh_marks.specs.Moves.{Went}
use Rattle.gh_phase.specs.declared.view.RunPhase.TheVariants.{Mark}
use Rattle.gh_mutator_heap.specs.Facts.{ProcessorFacts, MayBegin, ShapesAreGood}
use Rattle.gh_poll.specs.MarkFacts.{KnowsCycle}
use Rattle.gh_mutator.specs.ProcessorMarks.{MarkFacts, only_polls}
use Rattle.gh_mutator_heap.specs.Runs.{DoesPoints}
use Rattle.gh_mutator.specs.Sound.{has_room}
use Rattle.gh_mutator.specs.Running.{IsSound}

-- What is known where a processor goes on: of the heap, of marking, of what the two are to each other, and of the processor.
pub record Together (z : Cycle) (a : ℕ) (h : Heap) (s : Marking) (m : Processor) (pending : Option Answer) : Type 0 where
  pub shapes : ShapesAreGood z.arena.shapes
  pub heap : Good z.arena (view h)
  pub marking : MarkingGood z s
  pub bounded : IsBounded z.arena h.ever
  pub beside : IsBeside z.arena h s
  -- a goroutine that has ended its stack says so
  pub ends : (g : ℕ) → h.ever.ended g ≡ true → h.words (Cell.Scanned g) ≡ END
  pub cycle : KnowsCycle z s
  pub sound : IsSound z.arena.layout m
  -- while a cycle is marked each span is swept
  pub sweeps : sweep_in m ≡ None
  pub fine : ProcessorFacts z.arena a (view h) m pending
  pub facts : MarkFacts z a s m

-- while it runs a statement, or ends a goroutine, it knows that marking is on
abbrev pub KnowsMarking : Processor → Type 0
KnowsMarking m = only_polls m.task ≡ false → m.poll.local.view.phase ≡ Mark

-- What its step comes to, with the heap and the processor as they are behind it: the step is made of moves of marking that its seat may make.
pub record StepsOn (z : Cycle) (a : ℕ) (k : Heap) (s : Marking) (m : Processor) : Type 0 where
  pub then : Marking
  pub went : Went z a s then
  pub beside : IsBeside z.arena k then
  pub facts : MarkFacts z a then m

-- A step of its own, by whichever move over the heap it is.
abbrev pub StepsBesideMarking : Type 0
StepsBesideMarking = (z : Cycle) (a : ℕ) (h : Heap) (s : Marking) (m : Processor) (pending : Option Answer) → Together z a h s m pending → is_busy_at m.task ≡ true → KnowsMarking m →
    (l : heap.Steps z.arena a h (asks z.arena.layout m) (λ t. DoesPoints z.arena a h t m pending (h.words (cell_of (asks z.arena.layout m))))) →
    StepsOn z a (heap.moved z.arena a h l.move) s (takes z.arena.layout z.arena.shapes m (h.words (cell_of (asks z.arena.layout m))))

-- Any operation may begin, a store where there is room for its write barrier.
abbrev pub BeginsBesideMarking : Type 0
BeginsBesideMarking = (z : Cycle) (a : ℕ) (h : Heap) (s : Marking) (m : Processor) (o : Op) → Together z a h s m None → m.task ≡ Task.Idle → MayBegin z.arena a (view h) o → has_room m o ≡ true → MarkFacts z a s (begins z.arena.shapes m o)

pub record GoesOnBesideMarking : Type 0 where
  pub begins : BeginsBesideMarking
  pub own_step : StepsBesideMarking
