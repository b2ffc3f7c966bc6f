-- The world of the processors, the workers and the coordinator: what a list of their steps is answered, and that it is the state of such a list.
use Rattle.std.specs.Prelude.{◌≡◌, ℕ, ◌+◌, ◌<◌, ◌≤◌, Bool, true, false, ◌==◌, if◌then◌else◌, not, List, [], ◌∷◌, ◌++◌, length, map, replicate, slice_index, slice_set, slice_get, ◌-◌, Option, Some, None, is_some, sum_by}
use Rattle.std.specs.Option.{option_to_list}
use Rattle.gh_world.specs.Vocabulary.{Actor, acts, Answer, arena_of, Ask, before_step, begun_in, bit, by, Cycle, Entry, Event, InRange, is_busy_at, is_last, is_leaving, is_point, is_serving, is_statement, IsLayoutOf, Layout, LayoutPlan, length_of, made_by, may_begin, MOST_GOROUTINES, Next, Op, op_at, Processor, processor_kind, Program, Progress, range_with_len, Runner, Setting, Shape, started, state_of, statement_answer, Task, WellFormed}
use Rattle.gh_mutator.specs.declared.new.NewStage.TheVariants.{Assist, Place, Want}
use Rattle.gh_base.specs.Steps.{cell_of, changed, request, target}
use Rattle.gh_mutator.specs.declared.new.NewStage.{NewStage}
use Rattle.gh_mutator.specs.AtOnce.{MadeAtOnce}
use Rattle.gh_mutator.specs.New.{is_made}
use Rattle.gh_mutator.specs.Mutating.{Mutating, goes, asks, begins, opening}
use Rattle.gh_coord.specs.Listing as coord
use Rattle.gh_coord.specs.Pacing.{first_trigger}
use Rattle.gh_coord.specs.Sound.{SoundCoordinating}
use Rattle.gh_mutator.specs.declared.task.Task.TheVariants.{New}
use Rattle.gh_mutator.specs.PollRoom.{HasRoomToStore}
use Rattle.gh_mutator.specs.Sound.{SoundMutating}
use Rattle.gh_worker.specs.Listing as worker
use Rattle.gh_worker.specs.Sound.{SoundWorking}
use Rattle.gh_lists.specs.Handshake.{Pacing, Setup, those}
use Rattle.gh_lists.specs.Lists.{Given}
use Rattle.gh_world.specs.Schedule.{ended_after, has_ended, turn_from}
use Rattle.gh_world.specs.Turns.{total_by, total_of, to_come, Stands, leave_is_begun, later, op_due, Follows, its_goroutine, statements_among, statement_now, is_unacted, next_point}
use Rattle.gh_world.specs.Wishes.{most_cycles, wishes_of}

-- ---- the lists of a script

-- the coordinator's numbers: those of the script's settings, room for its cycles, and the trigger by which the first is asked for
abbrev pub pacing_of : Program → Pacing
pacing_of p = record { gogc = p.settings.gogc; minheap = p.settings.minheap; room = most_cycles p; trigger = first_trigger p.settings.globals (length p.goroutines) p.settings.gogc p.settings.minheap }

-- which operations the processors may begin: of each goroutine as many `new` and `gc` as the script has
abbrev pub may_begin_of : Program → Layout → ℕ → List (Entry Op) → Op → Bool
may_begin_of p l a es o = may_begin (arena_of p.shapes l) (wishes_of p) a (state_of (processor_kind p.shapes l) a es) es o

-- what no step of a script's heap changes
abbrev pub setup_of : Program → Layout → Setup
setup_of p l = record { shapes = p.shapes; layout = l; pacing = pacing_of p; may = may_begin_of p l }

-- with how many `new` and `gc` each goroutine has
abbrev pub given_for : Program → Layout → Given
given_for p l = record { shapes = p.shapes; layout = l; pacing = pacing_of p; counts = wishes_of p }

-- what a list is of: the processors of a heap of this layout, its workers and the coordinator
abbrev pub setting_of : Program → Layout → Setting Actor Op
setting_of p l = those (setup_of p l)

-- the numbers of the script's heap: those of its settings, all pages in use from the opening on, and how many goroutines it has
abbrev pub layout_plan : Program → LayoutPlan
layout_plan p = record { opened = p.settings.arena; pages = p.settings.arena; globals = p.settings.globals; procs = p.settings.procs; workers = p.settings.workers; goroutines = length p.goroutines }

-- the layout is that of the script's settings
abbrev pub LaysOut : Program → Layout → Type 0
LaysOut p l = IsLayoutOf (layout_plan p) l

-- ---- what an entry says

-- what a step of the processor says, where this statement was begun last: the actor's last step, or one that ends a statement or none
abbrev pub event_at : ℕ × ℕ → Bool → Option Answer → Event
event_at now true answer = Event.Finished
event_at now false None = Event.Moved
event_at now false (Some a) = Event.Answered now.0 now.1 a

-- what a step says that tells this cycle to be swept, or none
abbrev pub told_event : Option Cycle → Event
told_event None = Event.Moved
told_event (Some c) = Event.Swept c.k c.marked c.freed

-- what a step says of an actor that is done by it, and else this
abbrev pub done_or : Option (Unit {0}) → Event → Event
done_or None other = other
done_or (Some x) other = Event.Finished

-- what a step of this actor says that has found this
abbrev pub event_by : Layout → ℕ × ℕ → Actor → (found : ℕ) → Event
event_by l now (Actor.Runs m) found = event_at now (is_last m.task) (statement_answer l m found)
event_by l now (Actor.Marks w) found = done_or (worker.given (worker.goes l w found)) Event.Moved
event_by l now (Actor.Leads c) found = done_or (coord.given (coord.goes l c found)) (told_event (coord.told_at c.cycles c.stage))

-- the goroutine and the number of the statement that the actor began last
abbrev pub now_by : (a : ℕ) → List (Entry Op) → ℕ × ℕ
now_by a es = statement_now (begun_in (by a es))

-- of the actor of the newest entry, before or with that
abbrev pub now_in : List (Entry Op) → ℕ × ℕ
now_in [] = (0, 0)
now_in (e ∷ es) = now_by e.actor (e ∷ es)

-- an answer with its goroutine
abbrev pub with_goroutine : ℕ → Option Answer → List (ℕ × Answer)
with_goroutine g None = []
with_goroutine g (Some a) = (g, a) ∷ []

-- what an event says that a statement was answered
abbrev pub answered_in : Event → List (ℕ × Answer)
answered_in (Event.Answered g n a) = (g, a) ∷ []
answered_in Event.Moved = []
answered_in (Event.Swept k marked freed) = []
answered_in Event.Finished = []

module _ (shapes : List Shape) (l : Layout) where
  -- what the entry's step gives the statement
  abbrev pub answer_in : List (Entry Op) → Entry Op → Option Answer
  answer_in es e = statement_answer l (before_step shapes l es e) e.found

  -- the goroutine and the number of each statement, in the order of their points
  abbrev pub points_in : List (Entry Op) → List (ℕ × ℕ)
  points_in [] = []
  points_in (e ∷ es) = points_in es ++ next_point (is_point (acts l (before_step shapes l es e) e.found)) (now_in (e ∷ es))

  -- how many statements the processor at seat a has answered
  abbrev pub marks_at : (a : ℕ) → List (Entry Op) → ℕ
  marks_at a [] = 0
  marks_at a (e ∷ es) = marks_at a es + (if e.actor == a then bit (is_some (answer_in es e)) else 0)

module _ (p : Program) (l : Layout) where
  -- the actor after the list
  abbrev pub actor_after : List (Entry Op) → ℕ → Actor
  actor_after es a = state_of (setting_of p l).kind a es

  -- what the entry's step says
  abbrev pub event_of : List (Entry Op) → Entry Op → Event
  event_of es e = event_by l (now_in (e ∷ es)) (started (setting_of p l).kind e.begun (actor_after es e.actor)) e.found

-- ---- the world

-- what a world is: its script and layout, its words, the processors by their seats, each with how far it is among its turns, the workers and the coordinator, and the points
pub record State : Type 0 where
  pub script : Program
  pub layout : Layout
  pub words : List ℕ
  pub runners : List Runner
  pub workers : List worker.Working
  pub coord : coord.Coordinating
  pub points : List (ℕ × ℕ)

-- how far a processor is among its turns as a world opens
abbrev pub opening_progress : Next → Progress
opening_progress first = record { next = first; begun = replicate MOST_GOROUTINES 0; stated = 0; last = 0 }

-- the processor at seat a before its first step, and how far it is: at the first of its turns
pub record IsOpening (p : Program) (a : ℕ) (x : Runner) : Type 0 where
  pub mutator : x.mutator ≡ opening a p.shapes
  pub progress : x.progress ≡ opening_progress x.progress.next
  pub come : to_come p a x.progress.next ≡ later p a 0 0
  pub stands : Stands p a x.progress.next
  pub going : leave_is_begun x.progress.next ≡ false

-- the processors of a heap, each before its first step, at a seat that there is
pub record AreOpening (p : Program) (l : Layout) (runners : List Runner) : Type 0 where
  pub many : length runners ≡ l.procs
  pub each : (a : ℕ) (x : Runner) → slice_get runners a ≡ Some x → IsOpening p a x
  pub sound : (a : ℕ) (x : Runner) → slice_get runners a ≡ Some x → SoundMutating l x.mutator.shapes x.mutator.processor

-- the workers of a heap, each before its first step
abbrev pub workers_at : Layout → List worker.Working
workers_at l = map worker.opening (range_with_len l.procs l.workers)

-- 1 where an object is being made that is not counted yet
abbrev pub making_in : NewStage → ℕ
making_in (Place p) = if is_made p.stage then 0 else 1
making_in (Want n) = 0
making_in (Assist n x) = 0
making_in _ = 1

abbrev pub making : Task → ℕ
making (New x) = making_in x.stage
making _ = 0

-- each goroutine has made at most n objects, with the one that is being made
abbrev pub MadeAtMost : ℕ → Processor → Type 0
MadeAtMost n m = (g : ℕ) → made_by m g + making m.task ≤ n

-- What each world keeps: of its script and words,
pub record SoundWords (p : Program) (l : Layout) (list : List ℕ) : Type 0 where
  pub script : WellFormed p
  pub layout : LaysOut p l
  pub long : length list ≡ length_of l

-- of the poll before a statement: the processor polls, or has polled and begun nothing since,
abbrev pub Polled : Next → Processor → Type 0
Polled (Next.Run r g) m = HasRoomToStore m
Polled _ m = Unit {0}

-- of the turns of the processor at seat a: the next is one of its turns, the statements that have begun and those that are to come are all that its goroutines have, and what is counted of one goroutine is at most what is counted of all,
pub record AreTurns (p : Program) (a : ℕ) (t : Progress) : Type 0 where
  pub stands : Stands p a t.next
  pub all : t.stated + statements_among (to_come p a t.next) ≡ total_by p a
  pub columns : length t.begun ≡ MOST_GOROUTINES
  pub few_begun : (g : ℕ) → slice_index t.begun g ≤ t.stated
  pub last : t.last < MOST_GOROUTINES

-- of the processor and its turns,
pub record SoundTurns (p : Program) (a : ℕ) (m : Mutating) (t : Progress) : Type 0 where
  pub turns : AreTurns p a t
  pub shapes : m.shapes ≡ p.shapes
  pub made : MadeAtMost t.stated m.processor
  pub leaves : is_leaving m.processor.task ≡ leave_is_begun t.next
  pub marked : m.marks + bit (is_serving m.processor.task) ≤ t.stated
  pub polled : Polled t.next m.processor

-- how many statements they have begun, how many of those have not had their point yet, and how many they have answered
abbrev pub stated_by : List Runner → ℕ
stated_by runners = sum_by (λ (x : Runner). x.progress.stated) runners

abbrev pub unacted_by : List Runner → ℕ
unacted_by runners = sum_by (λ (x : Runner). bit (is_unacted (op_at x.mutator.processor.task))) runners

abbrev pub answered_by : List Runner → ℕ
answered_by runners = sum_by (λ (x : Runner). x.mutator.marks) runners

-- of all processors and the points, of which there are so many, and room for so many,
pub record SoundRunners (p : Program) (l : Layout) (runners : List Runner) (points room : ℕ) : Type 0 where
  pub many : length runners ≡ l.procs
  pub each : (a : ℕ) (x : Runner) → slice_get runners a ≡ Some x → SoundTurns p a x.mutator x.progress
  pub sound : (a : ℕ) (x : Runner) → slice_get runners a ≡ Some x → SoundMutating l x.mutator.shapes x.mutator.processor
  pub pointed : points + unacted_by runners ≤ stated_by runners
  pub reserved : total_of p ≤ room

-- and of the others.
pub record SoundOthers (p : Program) (l : Layout) (workers : List worker.Working) (c : coord.Coordinating) : Type 0 where
  pub many : length workers ≡ l.workers
  pub works : (i : ℕ) (x : worker.Working) → slice_get workers i ≡ Some x → SoundWorking l x
  pub leads : SoundCoordinating l c
  pub room : c.cycles.room ≡ most_cycles p
  pub goes_on : coord.is_busy c.stage ≡ not (coord.is_done_at c.stage)

pub record SoundState (w : State) (points room : ℕ) : Type 0 where
  pub base : SoundWords w.script w.layout w.words
  pub running : SoundRunners w.script w.layout w.runners points room
  pub others : SoundOthers w.script w.layout w.workers w.coord

-- ---- what a world shows

abbrev pub script_of : State → Program
script_of w = w.script

abbrev pub layout_of : State → Layout
layout_of w = w.layout

-- how many actors there are: the processors, the workers and the coordinator
abbrev pub actors_of : State → ℕ
actors_of w = length w.runners + length w.workers + 1

-- the worker, or behind the last of them the coordinator
abbrev pub worker_or : coord.Coordinating → Option worker.Working → Actor
worker_or c (Some x) = Actor.Marks x
worker_or c None = Actor.Leads c

-- the processor, or behind the last of them who is at this place among the others
abbrev pub runner_or : Actor → Option Runner → Actor
runner_or other (Some x) = Actor.Runs x.mutator.processor
runner_or other None = other

-- the actor of this number
abbrev pub actor_of : State → ℕ → Actor
actor_of w a = runner_or (worker_or w.coord (slice_get w.workers (a - length w.runners))) (slice_get w.runners a)

-- the actor is done
abbrev pub is_done : State → ℕ → Bool
is_done w a = has_ended (actor_of w a)

-- whose turn it is after the list, where it would be this actor's
abbrev pub turn_in : Program → Layout → List (Entry Op) → ℕ → Option ℕ
turn_in p l es a = turn_from (ended_after (setting_of p l) es) (setting_of p l).actors a

-- all actors are
abbrev pub AllDone : State → Type 0
AllDone w = (a : ℕ) → a < actors_of w → is_done w a ≡ true

-- an actor's marks: the statements answered, the words scanned, how often the phase word was stored
abbrev pub marks_by : ℕ → Actor → ℕ
marks_by answered (Actor.Runs m) = answered
marks_by answered (Actor.Marks w) = w.marks
marks_by answered (Actor.Leads c) = c.marks

abbrev pub marks_of : State → ℕ → ℕ
marks_of w a = marks_by (sum_by (λ (x : Runner). x.mutator.marks) (option_to_list (slice_get w.runners a))) (actor_of w a)

-- how many statements were answered
abbrev pub answered_of : State → ℕ
answered_of w = answered_by w.runners

-- the goroutine and the number of each statement, in the order of their points
abbrev pub points_of : State → List (ℕ × ℕ)
points_of w = w.points

-- the swept cycles, in their order
abbrev pub cycles_of : State → List Cycle
cycles_of w = w.coord.cycles.items

-- the bytes that the last cycle marked
abbrev pub live_of : State → ℕ
live_of w = w.coord.live

-- the words of credit that had lapsed by the last cycle
abbrev pub lapsed_of : State → ℕ
lapsed_of w = w.coord.lapsed

-- ---- how a step of a processor is made

-- the operation that the next step begins: none while one is begun
abbrev pub op_at_turn : Program → Bool → Next → Option Op
op_at_turn p true turn = None
op_at_turn p false turn = op_due p turn

-- the progress once an operation is begun
abbrev pub counts_after : Progress → Option Op → List ℕ
counts_after t None = t.begun
counts_after t (Some o) = if is_statement o then slice_set t.begun (its_goroutine o) (slice_index t.begun (its_goroutine o) + 1) else t.begun

abbrev pub stated_after : Progress → Option Op → ℕ
stated_after t None = t.stated
stated_after t (Some o) = t.stated + bit (is_statement o)

abbrev pub last_after : Progress → Option Op → ℕ
last_after t None = t.last
last_after t (Some o) = if is_statement o then its_goroutine o else t.last

-- the progress once this is begun, and so much comes next
abbrev pub progress_after : Progress → Option Op → Next → Progress
progress_after t o new = record { next = new; begun = counts_after t o; stated = stated_after t o; last = last_after t o }

-- what comes next once it is begun
abbrev pub ComesNext : Program → (a : ℕ) → Next → Option Op → Next → Type 0
ComesNext p a before None new = new ≡ before
ComesNext p a before (Some o) new = Follows p a before o new

abbrev pub begun_as : Mutating → Option Op → Mutating
begun_as m None = m
begun_as m (Some o) = begins m o

-- the goroutine and the number of the statement that it began last
abbrev pub now_of : Progress → ℕ × ℕ
now_of t = (t.last, slice_index t.begun t.last)

-- what a step that asks this finds in these words
abbrev pub found_by : State → Ask → ℕ
found_by w ask = slice_index w.words (target (request w.layout ask))

-- An operation is begun where none is, by the processor at seat a.
pub record Begins (p : Program) (a : ℕ) (old new : Runner) : Type 0 where
  pub o : Option Op
  pub is : o ≡ op_at_turn p (is_busy_at old.mutator.processor.task) old.progress.next
  pub mutator : new.mutator ≡ begun_as old.mutator o
  pub goes : ComesNext p a old.progress.next o new.progress.next
  pub progress : new.progress ≡ progress_after old.progress o new.progress.next

-- what a processor's step finds in these words, in a heap of this layout
abbrev pub found_by_step : Layout → List ℕ → Mutating → ℕ
found_by_step l words m = slice_index words (target (request l (asks l m)))

-- the processor's next step is made at once, over these words
pub record MakesAtOnce (l : Layout) (before behind : List ℕ) (old new : Mutating) (pointed : Bool) (answer : Option Answer) : Type 0 where
  pub within : InRange l (cell_of (asks l old))
  pub words : behind ≡ changed (request l (asks l old)) before
  pub made : MadeAtOnce l old (found_by_step l before old) new pointed answer

-- and what that of a runner finds
abbrev pub found_for : Layout → List ℕ → Runner → ℕ
found_for l words x = found_by_step l words x.mutator

-- What the code of a processor's step has done: what it has begun, the step on that, and what is told of it.
pub record Ran (p : Program) (l : Layout) (a : ℕ) (before behind : List ℕ) (old new : Runner) (happened : Event) (pointed : Bool) : Type 0 where
  pub begun : Runner
  pub begins : Begins p a old begun
  pub fits : SoundTurns p a begun.mutator begun.progress
  pub busy : is_busy_at begun.mutator.processor.task ≡ true
  pub within : InRange l (cell_of (asks l begun.mutator))
  pub words : behind ≡ changed (request l (asks l begun.mutator)) before
  pub goes : new ≡ record begun { mutator = goes l begun.mutator (found_for l before begun) }
  pub says : happened ≡ event_at (now_of begun.progress) (is_last begun.mutator.processor.task) (statement_answer l begun.mutator.processor (found_for l before begun))
  pub point : pointed ≡ is_point (acts l begun.mutator.processor (found_for l before begun))

-- One step of the processor at seat a: an operation is begun where none is, and the processor takes its step.
pub record IsStepOfProcessor (old new : State) (a : ℕ) (happened : Event) : Type 0 where
  pub before_it : Runner
  pub is : slice_get old.runners a ≡ Some before_it
  pub begun : Runner
  pub begins : Begins old.script a before_it begun
  pub within : InRange old.layout (cell_of (asks old.layout begun.mutator))
  pub others : new ≡ record old {
    words = changed (request old.layout (asks old.layout begun.mutator)) old.words;
    runners = slice_set old.runners a (record { mutator = goes old.layout begun.mutator (found_by old (asks old.layout begun.mutator)); progress = begun.progress });
    points = old.points ++ next_point (is_point (acts old.layout begun.mutator.processor (found_by old (asks old.layout begun.mutator)))) (now_of begun.progress);
  }
  pub says : happened ≡ event_at (now_of begun.progress) (is_last begun.mutator.processor.task) (statement_answer old.layout begun.mutator.processor (found_by old (asks old.layout begun.mutator)))

-- ---- how a step of another actor is made

-- one step of worker i
pub record IsStepOfWorker (old new : State) (i : ℕ) (happened : Event) : Type 0 where
  pub before_it : worker.Working
  pub is : slice_get old.workers i ≡ Some before_it
  pub within : InRange old.layout (cell_of (worker.asks old.layout before_it))
  pub others : new ≡ record old { words = changed (request old.layout (worker.asks old.layout before_it)) old.words; workers = slice_set old.workers i (worker.goes old.layout before_it (found_by old (worker.asks old.layout before_it))) }
  pub says : happened ≡ done_or (worker.given (worker.goes old.layout before_it (found_by old (worker.asks old.layout before_it)))) Event.Moved

-- one step of the coordinator
pub record IsStepOfCoordinator (old new : State) (happened : Event) : Type 0 where
  pub within : InRange old.layout (cell_of (coord.asks old.layout old.coord))
  pub others : new ≡ record old { words = changed (request old.layout (coord.asks old.layout old.coord)) old.words; coord = coord.goes old.layout old.coord (found_by old (coord.asks old.layout old.coord)) }
  pub says : happened ≡ done_or (coord.given (coord.goes old.layout old.coord (found_by old (coord.asks old.layout old.coord)))) (told_event (coord.told_at old.coord.cycles old.coord.stage))
