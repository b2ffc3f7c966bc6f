-- The making of an object asks for a cycle once, exactly where it loads a trigger that is reached.
use Rattle.std.specs.Prelude.{◌≡◌, ℕ, List}
use Rattle.gh_mutator.specs.Vocabulary.{Layout, NewStage, Place, PlaceStage, Shape, Task, Want}
use Rattle.gh_alloc.specs.Trigger as trigger
use Rattle.gh_mutator.specs.Listing.{takes}
use Rattle.gh_mutator.specs.Processing.{Processor}

-- it has made an object, and seen that the heap reached the trigger
abbrev pub SawReachedAt : NewStage → Type 0
SawReachedAt (Want n) = Unit {0}
SawReachedAt _ = ⊥

abbrev pub SawReached : Task → Type 0
SawReached (Task.New x) = SawReachedAt x.stage
SawReached _ = ⊥

-- By a step that finds this a `new` tells that the heap, which has so many bytes with its object, has reached the trigger; and by one before that it has added the object's bytes to them, while marking was off.
abbrev pub SeesReachedAt : (found bytes : ℕ) → NewStage → Type 0
SeesReachedAt found bytes (Place p) = trigger.SeesReached p found bytes
SeesReachedAt found bytes _ = ⊥

abbrev pub SeesReached : Task → (found bytes : ℕ) → Type 0
SeesReached (Task.New x) found bytes = SeesReachedAt found bytes x.stage
SeesReached _ found bytes = ⊥

abbrev pub CountsUpToAt : (found bytes : ℕ) → NewStage → Type 0
CountsUpToAt found bytes (Place p) = trigger.CountsUpTo p found bytes
CountsUpToAt found bytes _ = ⊥

abbrev pub CountsUpTo : Task → (found bytes : ℕ) → Type 0
CountsUpTo (Task.New x) found bytes = CountsUpToAt found bytes x.stage
CountsUpTo _ found bytes = ⊥

-- it is about to load the trigger, where the heap has so many bytes
abbrev pub ComparesAt : (bytes : ℕ) → NewStage → Type 0
ComparesAt bytes (Place p) = p.stage ≡ PlaceStage.LoadTrigger bytes
ComparesAt bytes _ = ⊥

abbrev pub Compares : Task → (bytes : ℕ) → Type 0
Compares (Task.New x) bytes = ComparesAt bytes x.stage
Compares _ bytes = ⊥

pub record ProcessorsAskAtTheTrigger : Type 0 where
  pub saw : (l : Layout) (shapes : List Shape) (m : Processor) (found : ℕ) → SawReached (takes l shapes m found).task → (bytes : ℕ) × SeesReached m.task found bytes
  pub sees : (l : Layout) (shapes : List Shape) (m : Processor) (found bytes : ℕ) → SeesReached m.task found bytes → SawReached (takes l shapes m found).task
  -- the bytes that it compares are those of the heap with the object's, as it found them where it added those, while marking was off
  pub compares : (l : Layout) (shapes : List Shape) (m : Processor) (found bytes : ℕ) → Compares (takes l shapes m found).task bytes → CountsUpTo m.task found bytes
