-- Which words a processor writes, whatever it finds, and what it notes of the words of its stacks.
use Rattle.std.specs.Prelude.{◌≡◌, ◌≢◌, ℕ, ◌*◌, ◌%◌, ◌<◌, ◌⊎◌, false, true, List, length, slice_index}
use Rattle.gh_mutator_writes.specs.Vocabulary.{Ask, asks, Cell, effect, is_busy_at, IsAssisting, IsSearching, IsSound, IsSweeping, Layout, NewStage, Op, opening_processor, Place, Processor, processor_kind, Shape, takes, Task, Wait, WaitStage, Words}
use Rattle.gh_base.specs.declared.pack.TheConstants.{END}
use Rattle.gh_alloc.specs.declared.place.PlaceStage.{PlaceStage}
use Rattle.gh_phase.specs.declared.view.RunPhase.TheVariants.{Mark}
use Rattle.gh_mutator.specs.Asking.{Compares, CountsUpTo, SawReached, SeesReached}
use Rattle.gh_mutator.specs.Vocabulary.{MOST_GOROUTINES}

-- The words that it writes of some rows.

-- it begins to wait
abbrev pub BeginsToWaitAt : NewStage → Type 0
BeginsToWaitAt (Wait x) = x.stage ≡ WaitStage.Want
BeginsToWaitAt _ = ⊥

abbrev pub BeginsToWait : Task → Type 0
BeginsToWait (Task.New x) = BeginsToWaitAt x.stage
BeginsToWait (Task.Gc g x) = x.stage ≡ WaitStage.Want
BeginsToWait _ = ⊥

-- it asks for a cycle
abbrev pub IsWanting : Task → Type 0
IsWanting t = BeginsToWait t ⊎ SawReached t

-- it has made an object, and adds the bytes of its slot
abbrev pub CountsAt : Ask → NewStage → Type 0
CountsAt step (Place p) = (p.stage ≡ PlaceStage.Count) × (step ≡ Ask.Add Cell.Heap (8 * p.slot))
CountsAt step _ = ⊥

abbrev pub CountsObject : Ask → Task → Type 0
CountsObject step (Task.New x) = CountsAt step x.stage
CountsObject step _ = ⊥

-- the goroutine ends
pub record EndsStack (l : Layout) (m : Processor) (g : ℕ) : Type 0 where
  pub task_is : m.task ≡ Task.End g
  pub tells : asks l m ≡ Ask.Store (Cell.Scanned g) END

-- the stack of a goroutine of its own was scanned in the cycle that it knows, of which it has not noted that yet
pub record TellsScan (l : Layout) (m : Processor) (g : ℕ) : Type 0 where
  pub there : g < l.goroutines
  pub own : g % l.procs ≡ m.poll.seat
  pub marking : m.poll.local.view.phase ≡ Mark
  pub unscanned : m.poll.local.view.begun ≢ END → slice_index m.poll.local.scanned g ≢ m.poll.local.view.begun
  pub tells : asks l m ≡ Ask.Store (Cell.Scanned g) m.poll.local.view.begun

-- it draws on the bank by this step
abbrev pub IsSwap : Ask → Type 0
IsSwap (Ask.Swap c old new) = Unit {0}
IsSwap _ = ⊥

-- The words that it writes: no control word beside those of the lock, the bytes, the wanted cycle and the bank, and while it sweeps the counts of the sweep.
abbrev pub IsWritten : Layout → Processor → Cell → Type 0
IsWritten l m Cell.Lock = Unit {0}
IsWritten l m Cell.Want = IsWanting m.task × (asks l m ≡ Ask.Or Cell.Want 1)
IsWritten l m Cell.Bank = IsAssisting m.task × IsSwap (asks l m)
IsWritten l m Cell.Heap = CountsObject (asks l m) m.task ⊎ IsSweeping m
IsWritten l m Cell.Tally = IsSweeping m
IsWritten l m Cell.Live = IsSweeping m
IsWritten l m (Cell.Page i) = Unit {0}
IsWritten l m (Cell.Alloc i) = Unit {0}
IsWritten l m (Cell.Mark i) = Unit {0}
IsWritten l m (Cell.Bitmap i) = Unit {0}
IsWritten l m (Cell.Birth i) = Unit {0}
IsWritten l m (Cell.Field i) = Unit {0}
IsWritten l m (Cell.Global i) = Unit {0}
IsWritten l m (Cell.Buffer i) = Unit {0}
IsWritten l m (Cell.Entry i j) = Unit {0}
IsWritten l m (Cell.Ack i) = i ≡ m.poll.seat
IsWritten l m (Cell.Scanned g) = EndsStack l m g ⊎ TellsScan l m g
IsWritten l m _ = ⊥

-- the step loads, or is on one of these words
abbrev pub WritesOf : (Cell → Type 0) → Ask → Type 0
WritesOf written (Ask.Load c) = Unit {0}
WritesOf written (Ask.Store c value) = written c
WritesOf written (Ask.Or c bits) = written c
WritesOf written (Ask.And c bits) = written c
WritesOf written (Ask.Add c more) = written c
WritesOf written (Ask.Swap c old new) = written c

-- its seat is the same
abbrev pub StaysThere : (m to : Processor) → Type 0
StaysThere m to = to.poll.seat ≡ m.poll.seat

pub record ProcessorWritesItsOwn : Type 0 where
  pub sound_first : (l : Layout) (seat : ℕ) → IsSound l (opening_processor seat)
  pub sound_begins : (shapes : List Shape) (l : Layout) (m : Processor) (o : Op) → IsSound l m → is_busy_at m.task ≡ false → IsSound l ((processor_kind shapes l).begins m o)
  pub sound_takes : (l : Layout) (shapes : List Shape) (m : Processor) (found : ℕ) → IsSound l m → is_busy_at m.task ≡ true → IsSound l (takes l shapes m found)
  pub begins_there : (shapes : List Shape) (l : Layout) (m : Processor) (o : Op) → IsSound l m → StaysThere m ((processor_kind shapes l).begins m o)
  pub stays_there : (l : Layout) (shapes : List Shape) (m : Processor) (found : ℕ) → IsSound l m → StaysThere m (takes l shapes m found)
  pub writes : (l : Layout) (m : Processor) → IsSound l m → WritesOf (IsWritten l m) (asks l m)
  -- so each other word is as it was
  pub leaves : (l : Layout) (m : Processor) (words : Words) (c : Cell) → IsSound l m → (IsWritten l m c → ⊥) → effect words (asks l m) c ≡ words c
  -- a wait asks for a cycle once: behind a step it is about to do so where a search has ended alone
  pub once : (l : Layout) (shapes : List Shape) (m : Processor) (found : ℕ) → BeginsToWait (takes l shapes m found).task → IsSearching m.task
  -- and the making of an object asks once, exactly where it loads a trigger that is reached
  pub saw : (l : Layout) (shapes : List Shape) (m : Processor) (found : ℕ) → SawReached (takes l shapes m found).task → (bytes : ℕ) × SeesReached m.task found bytes
  pub sees : (l : Layout) (shapes : List Shape) (m : Processor) (found bytes : ℕ) → SeesReached m.task found bytes → SawReached (takes l shapes m found).task
  -- the bytes that it compares are those of the heap with the object's, as it found them where it added those, while marking was off
  pub compares : (l : Layout) (shapes : List Shape) (m : Processor) (found bytes : ℕ) → Compares (takes l shapes m found).task bytes → CountsUpTo m.task found bytes

-- The notes of its stacks: each is what it has written last of that stack.
pub record StacksAreNoted : Type 0 where
  pub first : (seat g : ℕ) → slice_index (opening_processor seat).poll.local.scanned g ≡ 0
  pub places : (seat : ℕ) → length (opening_processor seat).poll.local.scanned ≡ MOST_GOROUTINES
  pub begins : (shapes : List Shape) (l : Layout) (m : Processor) (o : Op) → IsSound l m → ((processor_kind shapes l).begins m o).poll.local.scanned ≡ m.poll.local.scanned
  pub as_many : (l : Layout) (shapes : List Shape) (m : Processor) (found : ℕ) → IsSound l m → length (takes l shapes m found).poll.local.scanned ≡ length m.poll.local.scanned
  -- the number that it writes is noted, and no other note changes
  pub notes : (l : Layout) (shapes : List Shape) (m : Processor) (found g number : ℕ) → IsSound l m → asks l m ≡ Ask.Store (Cell.Scanned g) number → g < length m.poll.local.scanned → slice_index (takes l shapes m found).poll.local.scanned g ≡ number
  pub keeps : (l : Layout) (shapes : List Shape) (m : Processor) (found g : ℕ) → IsSound l m → ((number : ℕ) → asks l m ≢ Ask.Store (Cell.Scanned g) number) → slice_index (takes l shapes m found).poll.local.scanned g ≡ slice_index m.poll.local.scanned g
  -- the end of a goroutine writes the number of an end
  pub ends : (l : Layout) (m : Processor) (g : ℕ) → m.task ≡ Task.End g → asks l m ≡ Ask.Store (Cell.Scanned g) END
