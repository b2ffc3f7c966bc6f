-- An actor of a heap, whichever it is: what it does, and which it is in lists of steps.
use Rattle.std.specs.Prelude.{◌≡◌, ℕ, Bool, false, true, nat_lt, if◌then◌else◌, Option, Some, None}
use Rattle.gh_actor.specs.Vocabulary.{Actor, Answer, Ask, has_names, has_room, HeapActor, Layout, Leads, Marks, most_cycles, Op, Runs, SoundOp}
use Rattle.gh_coord.specs.Listing as coord
use Rattle.gh_coord.specs.Stopping.{acks_of}
use Rattle.gh_mutator.specs.Mutating as mutating
use Rattle.gh_mutator.specs.Mutating.{Mutating}
use Rattle.gh_mutator.specs.Serving.{has_left_at}
use Rattle.gh_worker.specs.Listing as worker
use Rattle.gh_actor.specs.Plans.{Planned}

-- ---- its steps

abbrev pub is_busy : HeapActor → Bool
is_busy (Runs m) = mutating.is_busy m
is_busy (Marks w) = worker.is_busy w.stage
is_busy (Leads c) = coord.is_busy c.stage

abbrev pub asks : Layout → HeapActor → Ask
asks l (Runs m) = mutating.asks l m
asks l (Marks w) = worker.asks l w
asks l (Leads c) = coord.asks l c

abbrev pub goes : Layout → HeapActor → ℕ → HeapActor
goes l (Runs m) found = Runs (mutating.goes l m found)
goes l (Marks w) found = Marks (worker.goes l w found)
goes l (Leads c) found = Leads (coord.goes l c found)

-- a processor ends an operation with an answer
abbrev pub ends_with_answer : Option Answer → Option (Option Answer)
ends_with_answer None = None
ends_with_answer (Some answer) = Some (Some answer)

-- a worker and the coordinator end with none
abbrev pub ends_with_none : Option (Unit {0}) → Option (Option Answer)
ends_with_none None = None
ends_with_none (Some u) = Some None

abbrev pub gives : Layout → HeapActor → ℕ → Option (Option Answer)
gives l (Runs m) found = ends_with_answer (mutating.gives l m found)
gives l (Marks w) found = ends_with_none (worker.given (worker.goes l w found))
gives l (Leads c) found = ends_with_none (coord.given (coord.goes l c found))

-- what it counts of itself: answered statements, scanned words, or how often the phase word was stored
abbrev pub machine_marks : HeapActor → ℕ
machine_marks (Runs m) = m.marks
machine_marks (Marks w) = w.marks
machine_marks (Leads c) = c.marks

-- ---- which actor it is

-- a processor, a worker, and the coordinator
abbrev pub IsProcessor : HeapActor → Type 0
IsProcessor (Runs m) = Unit {0}
IsProcessor (Marks w) = ⊥
IsProcessor (Leads c) = ⊥

abbrev pub IsWorker : HeapActor → Type 0
IsWorker (Runs m) = ⊥
IsWorker (Marks w) = Unit {0}
IsWorker (Leads c) = ⊥

abbrev pub IsCoordinator : HeapActor → Type 0
IsCoordinator (Runs m) = ⊥
IsCoordinator (Marks w) = ⊥
IsCoordinator (Leads c) = Unit {0}

abbrev pub is_coordinator : HeapActor → Bool
is_coordinator (Leads c) = true
is_coordinator _ = false

-- no processor
abbrev pub IsOther : HeapActor → Type 0
IsOther (Runs m) = ⊥
IsOther (Marks w) = Unit {0}
IsOther (Leads c) = Unit {0}

abbrev pub machine_actor : HeapActor → Actor
machine_actor (Runs m) = Actor.Runs m.processor
machine_actor (Marks w) = Actor.Marks w
machine_actor (Leads c) = Actor.Leads c

-- a processor has the script's shapes
abbrev pub HasShapes : Planned → HeapActor → Type 0
HasShapes p (Runs m) = m.shapes ≡ p.script.shapes
HasShapes p (Marks w) = Unit {0}
HasShapes p (Leads c) = Unit {0}

-- the actor of this number before its first step: the processors come first, then the workers, and the coordinator last
abbrev pub opening : Planned → (a : ℕ) → HeapActor
opening p a =
    if nat_lt a p.layout.procs then Runs (mutating.opening a p.script.shapes)
    else if nat_lt a (acks_of p.layout) then Marks (worker.opening a)
    else Leads (coord.opening p.layout a p.script.settings.gogc p.script.settings.minheap (most_cycles p.script))

-- ---- what it may begin

-- a processor may begin the operation: nothing is begun, it has not left, and the operation's numbers are there, with room for its entries and a name for its object
pub record ProcessorMay (l : Layout) (m : Mutating) (o : Op) : Type 0 where
  pub idle : mutating.is_busy m ≡ false
  pub there : has_left_at m.processor.task ≡ false
  pub sound : SoundOp m.shapes l o
  pub names : has_names m.processor o ≡ true
  pub room : has_room m.processor o ≡ true

-- operations are begun by processors alone
abbrev pub MachineMayBegin : Layout → HeapActor → Op → Type 0
MachineMayBegin l (Runs m) o = ProcessorMay l m o
MachineMayBegin l (Marks w) o = ⊥
MachineMayBegin l (Leads c) o = ⊥

abbrev pub begins : HeapActor → Op → HeapActor
begins (Runs m) o = Runs (mutating.begins m o)
begins (Marks w) o = Marks w
begins (Leads c) o = Leads c

-- it rests between two operations, if it is a processor
abbrev pub IsAtRest : HeapActor → Type 0
IsAtRest (Runs m) = (mutating.is_busy m ≡ false) × (has_left_at m.processor.task ≡ false)
IsAtRest (Marks w) = Unit {0}
IsAtRest (Leads c) = Unit {0}
