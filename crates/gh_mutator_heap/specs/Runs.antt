-- A processor among any number of processors: what it begins begins well, each of its steps is a move that its rights allow, on a word that there is, and what is known of it lasts whatever others do, and whatever is done to the words while it is parked.
use Rattle.std.specs.Prelude.{◌≡◌, ℕ, ◌<◌, true, false, ◌++◌, Option, Some, None}
use Rattle.gh_mutator_heap.specs.Vocabulary.{acts, Answer, Arena, asks, cell_of, effect, given_at, gives, Good, InRange, is_busy_at, IsParked, Op, opening_ever, opening_processor, option_to_list, point_of, Processor, processor_kind, Shared, Steps, sweep_in, Sweeping, View, view}
use Rattle.gh_phase.specs.Views.{first_view}
use Rattle.gh_central.specs.Sweeping.{SweepLeaves}
use Rattle.gh_mutator_heap.specs.Facts.{Does, ProcessorFacts, Lasts, MayBegin, ShapesAreGood, answered_at}
use Rattle.gh_mutator_heap.specs.PollHeap.{Has, KeepsGhosts, KnowsAtAnyTime, no_page}
use Rattle.gh_mutator.specs.ProcessorPlaces.{stage_of}
use Rattle.gh_mutator.specs.Serving.{has_left_at}

-- before its first step, at its seat in a heap that opens, where it holds nothing
abbrev pub Opens : Type 0
Opens = (z : Arena) (a : ℕ) (v : View) → a < z.layout.procs → v.generation ≡ first_view.generation → v.ever ≡ opening_ever → Has a v false no_page → ProcessorFacts z a v (opening_processor a) None

-- one that has left begins nothing
abbrev pub Begins : Type 0
Begins = (z : Arena) (a : ℕ) (v : View) (m : Processor) (o : Op) → ShapesAreGood z.shapes → Good z v → ProcessorFacts z a v m None → is_busy_at m.task ≡ false → (has_left_at m.task ≡ false → MayBegin z a v o) → ProcessorFacts z a v ((processor_kind z.shapes z.layout).begins m o) None

-- at rest no answer is pending
abbrev pub Rests : Type 0
Rests = (z : Arena) (a : ℕ) (v : View) (m : Processor) (pending : Option Answer) → is_busy_at m.task ≡ false → ProcessorFacts z a v m pending → pending ≡ None

-- what the step does; and of operations with points, what is answered
pub record DoesPoints (z : Arena) (a : ℕ) (s t : Shared) (m : Processor) (pending : Option Answer) (found : ℕ) : Type 0 where
  pub does : Does z a s t m pending found
  pub answers : option_to_list (answered_at z.shapes s.ever (point_of (acts z.layout m found))) ++ option_to_list pending ≡ option_to_list does.after ++ option_to_list (given_at m.task (gives z.layout m found))

-- a step of its own, where it runs no sweep
abbrev pub OwnStep : Type 0
OwnStep = (z : Arena) (a : ℕ) (s : Shared) (m : Processor) (pending : Option Answer) → ShapesAreGood z.shapes → is_busy_at m.task ≡ true → Good z (view s) → sweep_in m ≡ None → ProcessorFacts z a (view s) m pending →
    Steps z a s (asks z.layout m) (λ t. DoesPoints z a s t m pending (s.words (cell_of (asks z.layout m))))

-- a step of the sweep that it runs
abbrev pub SweepStep : Type 0
SweepStep = (z : Arena) (a : ℕ) (s t : Shared) (m : Processor) (pending : Option Answer) (sw : Sweeping) → ShapesAreGood z.shapes → Good z (view s) → Good z (view t) → ProcessorFacts z a (view s) m pending → sweep_in m ≡ Some sw → SweepLeaves (view s) (view t) → t.words ≡ effect s.words (asks z.layout m) →
    DoesPoints z a s t m pending (s.words (cell_of (asks z.layout m)))

-- it is on a word that there is
abbrev pub Within : Type 0
Within = (z : Arena) (a : ℕ) (v : View) (m : Processor) (pending : Option Answer) → Good z v → ProcessorFacts z a v m pending → InRange z.layout (cell_of (asks z.layout m))

-- Whatever is done to the words while it is parked at a stop, or is gone, its rights and the heap that never frees stay.
abbrev pub Stopped : Type 0
Stopped = (z : Arena) (a : ℕ) (v w : View) (m : Processor) (pending : Option Answer) (stops : ℕ) → IsParked stops (stage_of m) → KeepsGhosts a v w → ProcessorFacts z a v m pending → ProcessorFacts z a w m pending

-- there it has no right, and no answer is pending
abbrev pub Parked : Type 0
Parked = (z : Arena) (a : ℕ) (v : View) (m : Processor) (pending : Option Answer) (stops : ℕ) → IsParked stops (stage_of m) → ProcessorFacts z a v m pending → Has a v false no_page × (pending ≡ None)

-- at every moment it sits at its seat, and its registers hold what they hold in the heap that never frees
abbrev pub StandsAlways : Type 0
StandsAlways = (z : Arena) (a : ℕ) (v : View) (m : Processor) (pending : Option Answer) → ProcessorFacts z a v m pending → KnowsAtAnyTime z a v m.poll

pub record RunsByItsRights : Type 0 where
  pub opens : Opens
  pub begins : Begins
  pub rests : Rests
  pub own_step : OwnStep
  pub sweep_step : SweepStep
  pub within : Within
  pub lasts : Lasts
  pub stopped : Stopped
  pub parked : Parked
  pub stands : StandsAlways
