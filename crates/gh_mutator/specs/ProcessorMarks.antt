-- What is known of the whole processor while marking is on, by its task, and what each step of its own is where it polls, waits for a cycle, or leaves.
use Rattle.std.specs.Prelude.{◌≡◌, ◌≢◌, ℕ, Bool, true, false, List, Option, Some, None}
use Rattle.gh_mutator.specs.Vocabulary.{Assist, Assisting, cell_of, GlobalStage, has_entries, is_number_value, Local, Mark, NewStage, Op, Place, PlaceStage, Placing, Polling, register_at, Search, Shape, Store, StoreStage, Task, Wait, waiting, Want}
use Rattle.gh_assist.specs.Facts as assist_facts
use Rattle.gh_barrier.specs.Facts as write_facts
use Rattle.gh_barrier.specs.Listing.{Writing}
use Rattle.gh_mutator.specs.Listing.{asks, begins, takes}
use Rattle.gh_poll.specs.MarkFacts.{IsBetween, holding_only, KnowsCycle, KnowsNumber, KnowsStacks, LeaveFacts, PollFacts, WaitFacts}
use Rattle.gh_mutator.specs.MarkVocabulary.{Cycle, Good, Hands, IsParked, KnowsObjects, Others, Shared, Steps, nothing, stage_of}
use Rattle.gh_mutator.specs.Processing.{Processor}

-- a write behind the write barrier, beside what is known between two polls
pub record IsWriting (z : Cycle) (a : ℕ) (s : Shared) (local : Local) (w : Writing) : Type 0 where
  pub stacks : KnowsStacks z a s local.stacks local.scanned
  pub number : KnowsNumber z local.view
  pub writes : write_facts.Facts z a s nothing w

-- the slot that is marked, and in which no object is made yet
abbrev pub reserved_at : (at : ℕ) → PlaceStage → Option ℕ
reserved_at at PlaceStage.Alloc = Some at
reserved_at at _ = None

-- an object that is marked before it is made
pub record IsPlacing (z : Cycle) (a : ℕ) (s : Shared) (local : Local) (x : Placing) : Type 0 where
  pub marking : x.marking ≡ true
  pub stacks : KnowsStacks z a s local.stacks local.scanned
  pub number : KnowsNumber z local.view
  pub hands : Hands a s (record (holding_only local.held) { placing = reserved_at x.at x.stage })

-- an assist behind the making of an object
pub record IsAssisting (z : Cycle) (a : ℕ) (s : Shared) (local : Local) (x : Assisting) : Type 0 where
  pub stacks : KnowsStacks z a s local.stacks local.scanned
  pub number : KnowsNumber z local.view
  pub assists : assist_facts.Facts z a s x

module _ (z : Cycle) (a : ℕ) (s : Shared) (p : Polling) where
  -- a new object
  abbrev pub NewFacts : NewStage → Type 0
  NewFacts (Wait x) = WaitFacts z a s (waiting x p)
  NewFacts (Place x) = IsPlacing z a s p.local x
  NewFacts (Search waited y) = IsBetween z a s p.local
  NewFacts (Want n) = IsBetween z a s p.local
  NewFacts (Assist n x) = IsAssisting z a s p.local x

  -- a store has room for its write barrier until it writes, by which word of the bitmap it finds; without the barrier it writes numbers alone
  abbrev pub StoreFacts : Store → StoreStage → Type 0
  StoreFacts x StoreStage.Page = IsBetween z a s p.local × (has_entries p ≡ true)
  StoreFacts x StoreStage.Bits = IsBetween z a s p.local × (has_entries p ≡ true)
  StoreFacts x StoreStage.Field = IsBetween z a s p.local × (p.local.view.phase ≡ Mark → is_number_value (register_at p x.g x.v) ≡ true)
  StoreFacts x (StoreStage.Writing w) = IsWriting z a s p.local w
  StoreFacts x StoreStage.NilBase = IsBetween z a s p.local

  -- a global is written without the barrier where marking is off, as the processor knows
  abbrev pub GlobalFacts : GlobalStage → Type 0
  GlobalFacts GlobalStage.Store = IsBetween z a s p.local × (p.local.view.phase ≢ Mark)
  GlobalFacts (GlobalStage.Writing w) = IsWriting z a s p.local w
  GlobalFacts _ = IsBetween z a s p.local

  abbrev pub TaskFacts : Task → Type 0
  TaskFacts Task.Poll = PollFacts z a s p
  TaskFacts (Task.New x) = NewFacts x.stage
  TaskFacts (Task.Store x) = StoreFacts x x.stage
  TaskFacts (Task.Global x) = GlobalFacts x.stage
  TaskFacts (Task.Gc g x) = WaitFacts z a s (waiting x p)
  TaskFacts (Task.Leave x) = (p.local.held ≡ None) × LeaveFacts z a s x.stage
  -- what it knew of the phase is of no account any more
  TaskFacts Task.Left = (p.local.held ≡ None) × Hands a s nothing
  TaskFacts _ = IsBetween z a s p.local

pub record MarkFacts (z : Cycle) (a : ℕ) (s : Shared) (m : Processor) : Type 0 where
  pub seat_is : m.poll.seat ≡ a
  pub stacks : KnowsStacks z a s m.poll.local.stacks m.poll.local.scanned
  pub task_is : TaskFacts z a s m.poll m.task

-- The task is a poll, the wait for a cycle, or a leave.
abbrev pub new_polls : NewStage → Bool
new_polls (Wait x) = true
new_polls _ = false

abbrev pub only_polls : Task → Bool
only_polls Task.Poll = true
only_polls (Task.New x) = new_polls x.stage
only_polls (Task.Gc g x) = true
only_polls (Task.Leave x) = true
only_polls _ = false

-- The processor stands still at a stop, or is gone, and has nothing in hand, where a cycle begins.
pub record StandsWithNothing (z : Cycle) (a : ℕ) (s : Shared) (m : Processor) : Type 0 where
  pub stops : ℕ
  pub parked : IsParked stops (stage_of m)
  pub seat_is : m.poll.seat ≡ a
  pub no_buffer : m.poll.local.held ≡ None
  pub stacks : KnowsStacks z a s m.poll.local.stacks m.poll.local.scanned
  pub nothing_in_hand : Hands a s nothing

pub record MarksByMoves : Type 0 where
  -- a cycle begins
  pub opens : (z : Cycle) (a : ℕ) (s : Shared) (m : Processor) → StandsWithNothing z a s m → MarkFacts z a s m
  -- an idle processor begins to poll, to wait, or to leave
  pub begins : (shapes : List Shape) (z : Cycle) (a : ℕ) (s : Shared) (m : Processor) (o : Op) → m.task ≡ Task.Idle → only_polls (begins shapes m o).task ≡ true → MarkFacts z a s m → MarkFacts z a s (begins shapes m o)
  pub own_step : (shapes : List Shape) (z : Cycle) (a : ℕ) (s : Shared) (m : Processor) → Good z s → KnowsObjects z s → KnowsCycle z s → only_polls m.task ≡ true → MarkFacts z a s m →
      Steps z a s (asks z.arena.layout m) (λ t. MarkFacts z a t (takes z.arena.layout shapes m (s.words (cell_of (asks z.arena.layout m)))))
  pub lasts : (z : Cycle) (a : ℕ) (s t : Shared) (m : Processor) → Others z a s t → MarkFacts z a s m → MarkFacts z a t m
  -- where a processor stands still it has nothing in hand, and so it is where the cycle ends
  pub waits : (z : Cycle) (a : ℕ) (s : Shared) (m : Processor) (stops : ℕ) → IsParked stops (stage_of m) → MarkFacts z a s m → StandsWithNothing z a s m
