-- The processor's listing: what its task asks for, where that leads, what is answered at its end, and where it acts. Each statement's own listing is in the file of its name.
use Rattle.std.specs.Prelude.{ℕ, Bool, true, false, List, Option, Some, None, is_some}
use Rattle.gh_mutator.specs.Vocabulary.{Answer, Ask, Cell, END, Ends, GoesOn, Layout, Leaving, leaving, marking_at, Op, Polling, Shape, Source, Step, Task, Then, Waiting, with_ended, with_nothing}
use Rattle.gh_mutator.specs.Processing.{Processor}
use Rattle.gh_mutator.specs.Global as global
use Rattle.gh_poll.specs.Leave as leave
use Rattle.gh_mutator.specs.Load as load
use Rattle.gh_mutator.specs.New as new
use Rattle.gh_mutator.specs.New.{searches, seeking, wanted_of}
use Rattle.gh_poll.specs.Poll as poll
use Rattle.gh_mutator.specs.Processor.{at_poll, at_task, keeping, register_of, taking}
use Rattle.gh_mutator.specs.Register as register
use Rattle.gh_mutator.specs.Step.{answered}
use Rattle.gh_mutator.specs.Store as store
use Rattle.gh_poll.specs.Wait as wait

-- an operation is begun, and a step is to be made
abbrev pub is_busy_at : Task → Bool
is_busy_at Task.Idle = false
is_busy_at Task.Left = false
is_busy_at _ = true

-- Where an operation begins.
abbrev pub begins_at : List Shape → Processor → Op → Task
begins_at shapes m (Op.New g d t) = searches (wanted_of shapes g d t) false (seeking m (wanted_of shapes g d t))
begins_at shapes m (Op.Load g d b k) = Task.Load (load.begins g d b k (register_of m g b))
begins_at shapes m (Op.Store g b k v) = Task.Store (store.begins g b k v (register_of m g b))
begins_at shapes m (Op.GetGlobal g d k) = Task.Global (global.begins_load g d k)
begins_at shapes m (Op.SetGlobal g k v) = Task.Global (global.begins_store m.poll.local g k v (register_of m g v))
begins_at shapes m (Op.Int g d n) = Task.Register (register.begins g d (Source.Int n))
begins_at shapes m (Op.Move g d s) = Task.Register (register.begins g d (Source.Move s))
begins_at shapes m (Op.Nil g d) = Task.Register (register.begins g d Source.Nil)
begins_at shapes m (Op.Gc g) = Task.Gc g (wait.begins m.poll)
begins_at shapes m Op.Poll = Task.Poll
begins_at shapes m (Op.End g) = Task.End g
begins_at shapes m Op.Leave = Task.Leave (leaving m.poll)

-- A poll of a turn's own begins as one that is no part of a wait. What is held of the heap is the leave's from its beginning on.
abbrev pub begun_with : Polling → Op → Polling
begun_with p Op.Poll = poll.begins p false
begun_with p Op.Leave = with_nothing p
begun_with p _ = p

abbrev pub begins : List Shape → Processor → Op → Processor
begins shapes m o = at_task (at_poll m (begun_with m.poll o)) (begins_at shapes m o)

-- What is asked for.

abbrev pub asks_at : Layout → Processor → Task → Ask
asks_at l m Task.Idle = Ask.Load Cell.Touch
asks_at l m Task.Left = Ask.Load Cell.Touch
asks_at l m (Task.Load x) = load.asks l x
asks_at l m (Task.Store x) = store.asks l (register_of m x.g x.v) x
asks_at l m (Task.Global x) = global.asks l (register_of m x.g x.r) x
asks_at l m (Task.Register x) = register.asks x
asks_at l m (Task.New x) = new.asks_at l m x.stage
asks_at l m (Task.Gc g x) = wait.asks (wait.waiting x m.poll)
asks_at l m Task.Poll = poll.asks m.poll
asks_at l m (Task.End g) = Ask.Store (Cell.Scanned g) END
asks_at l m (Task.Leave x) = leave.asks x

abbrev pub asks : Layout → Processor → Ask
asks l m = asks_at l m m.task

-- Where it goes by what was found.

-- the task behind a step
abbrev pub follows : {S : Type 0} → (S → Task) → Then S → Task
follows goes (GoesOn s) = goes s
follows goes (Ends a) = Task.Idle

-- the processor after a step of a statement: its register d of goroutine g takes a value, if any, and the statement goes on or ends
abbrev pub applied : {S : Type 0} → (S → Task) → Processor → (g d : ℕ) → Step S → Processor
applied goes m g d step = at_task (taking m g d step.sets) (follows goes step.then)

-- after a step of the wait of a `gc`, of a poll, and of a leave, which is then this and has ended or not
abbrev pub after_gc : Processor → (g : ℕ) → Waiting → Option (Unit {0}) → Processor
after_gc m g x None = at_task (at_poll m x.poll) (Task.Gc g x.wait)
after_gc m g x (Some y) = at_task (at_poll m x.poll) Task.Idle

abbrev pub after_poll : Processor → Polling → Option (Unit {0}) → Processor
after_poll m p None = at_task (at_poll m p) Task.Poll
after_poll m p (Some y) = at_task (at_poll m p) Task.Idle

abbrev pub after_leave : Processor → Leaving → Option (Unit {0}) → Processor
after_leave m x None = at_task m (Task.Leave x)
after_leave m x (Some y) = at_task m Task.Left

abbrev pub takes_at : Layout → List Shape → Processor → Task → (found : ℕ) → Processor
takes_at l shapes m Task.Idle found = m
takes_at l shapes m Task.Left found = m
takes_at l shapes m (Task.Load x) found = applied Task.Load m x.g x.d (load.step l x found)
takes_at l shapes m (Task.Store x) found = applied Task.Store (keeping m (store.held_behind l m.poll.local.held x.stage found)) x.g x.v (store.step l m.poll.local (register_of m x.g x.v) x found)
takes_at l shapes m (Task.Global x) found = applied Task.Global (keeping m (global.held_behind l m.poll.local.held x.stage found)) x.g x.r (global.step l (register_of m x.g x.r) x found)
takes_at l shapes m (Task.Register x) found = applied Task.Register m x.g x.d (register.step (register_of m x.g (register.read_of x)) x)
takes_at l shapes m (Task.New x) found = new.takes_at l shapes m x.wanted x.stage found
takes_at l shapes m (Task.Gc g x) found = after_gc m g (wait.goes l (wait.waiting x m.poll) found) (wait.gives l (wait.waiting x m.poll) found)
takes_at l shapes m Task.Poll found = after_poll m (poll.goes l m.poll found) (poll.gives l m.poll found)
takes_at l shapes m (Task.End g) found = at_task (at_poll m (with_ended m.poll g)) Task.Idle
takes_at l shapes m (Task.Leave x) found = after_leave m (leave.goes x found) (leave.gives x found)

abbrev pub takes : Layout → List Shape → Processor → (found : ℕ) → Processor
takes l shapes m found = takes_at l shapes m m.task found

-- It makes an object, and searches for its slot.
abbrev pub is_searching : Task → Bool
is_searching (Task.New x) = new.searches_at x.stage
is_searching _ = false

-- It waits in a `gc`.
abbrev pub is_waiting : Task → Bool
is_waiting (Task.Gc g x) = true
is_waiting _ = false

-- it loads or stores a field
abbrev pub is_at_field : Task → Bool
is_at_field (Task.Load x) = true
is_at_field (Task.Store x) = true
is_at_field _ = false

-- By the word found the search for its slot goes on in the cached span or in another, or to a further page.
abbrev pub search_goes_on : Layout → Task → (found : ℕ) → Bool
search_goes_on l (Task.New x) found = new.goes_further_at l x.stage found
search_goes_on l _ found = false

-- It makes an object in its slot, and its next step neither gives a span back nor is the last.
abbrev pub is_made_further : Task → Bool
is_made_further (Task.New x) = new.is_made_further_at x.stage
is_made_further _ = false

-- What is answered to the operation that ends with the step, if one does.

-- where a routine has ended, this
abbrev pub once_ended : Option (Unit {0}) → Answer → Option Answer
once_ended None a = None
once_ended (Some y) a = Some a

abbrev pub gives_at : Layout → Processor → Task → (found : ℕ) → Option Answer
gives_at l m Task.Idle found = None
gives_at l m Task.Left found = None
gives_at l m (Task.Load x) found = answered (load.step l x found).then
gives_at l m (Task.Store x) found = answered (store.step l m.poll.local (register_of m x.g x.v) x found).then
gives_at l m (Task.Global x) found = answered (global.step l (register_of m x.g x.r) x found).then
gives_at l m (Task.Register x) found = answered (register.step (register_of m x.g (register.read_of x)) x).then
gives_at l m (Task.New x) found = new.gives_at l (marking_at m.poll) x.stage found
gives_at l m (Task.Gc g x) found = once_ended (wait.gives l (wait.waiting x m.poll) found) Answer.Swept
gives_at l m Task.Poll found = once_ended (poll.gives l m.poll found) Answer.Done
gives_at l m (Task.End g) found = Some Answer.Done
gives_at l m (Task.Leave x) found = once_ended (leave.gives x found) Answer.Done

abbrev pub gives : Layout → Processor → (found : ℕ) → Option Answer
gives l m found = gives_at l m m.task found

-- Where it acts: the operation whose point the step is, and whether it found no room.

pub record Act : Type 0 where
  pub op : Op
  pub full : Bool

abbrev pub acting : Bool → Op → Bool → Option Act
acting true o full = Some (record { op = o; full = full })
acting false o full = None

abbrev pub acts_at : Layout → Processor → Task → (found : ℕ) → Option Act
acts_at l m Task.Idle found = None
acts_at l m Task.Left found = None
acts_at l m (Task.Load x) found = acting (load.step l x found).acts (load.op_of x) false
acts_at l m (Task.Store x) found = acting (store.step l m.poll.local (register_of m x.g x.v) x found).acts (store.op_of x) false
acts_at l m (Task.Global x) found = acting (global.step l (register_of m x.g x.r) x found).acts (global.op_of x) false
acts_at l m (Task.Register x) found = acting (register.step (register_of m x.g (register.read_of x)) x).acts (register.op_of x) false
acts_at l m (Task.New x) found = acting (new.acts_at l x.stage found) (new.op_of x.wanted) (new.is_full_at x.stage)
acts_at l m (Task.Gc g x) found = acting (is_some (wait.gives l (wait.waiting x m.poll) found)) (Op.Gc g) false
acts_at l m Task.Poll found = acting (is_some (poll.gives l m.poll found)) Op.Poll false
acts_at l m (Task.End g) found = acting true (Op.End g) false
acts_at l m (Task.Leave x) found = acting (is_some (leave.gives x found)) Op.Leave false

abbrev pub acts : Layout → Processor → (found : ℕ) → Option Act
acts l m found = acts_at l m m.task found

-- The operation of a task that has not acted yet; none: it has acted, or nothing is begun.
abbrev pub op_at : Task → Option Op
op_at Task.Idle = None
op_at Task.Left = None
op_at (Task.Load x) = load.unacted x x.stage
op_at (Task.Store x) = Some (store.op_of x)
op_at (Task.Global x) = global.unacted x x.stage
op_at (Task.Register x) = Some (register.op_of x)
op_at (Task.New x) = new.unacted x.wanted x.stage
op_at (Task.Gc g x) = Some (Op.Gc g)
op_at Task.Poll = Some Op.Poll
op_at (Task.End g) = Some (Op.End g)
op_at (Task.Leave x) = Some Op.Leave
