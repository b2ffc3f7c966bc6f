-- What a statement leaves that is answered a fault.
use Rattle.std.specs.Prelude.{◌≡◌, ℕ, suc, ◌≤◌, Bool, true, false, Some}
use Rattle.gh_mutator.specs.Vocabulary.{Answer, Ask, Cause, Idle, Layout, Op, told}
use Rattle.gh_base.specs.declared.cell.Ask.TheVariants.{Load}
use Rattle.gh_base.specs.declared.value.Answer.TheVariants.{Fault}
use Rattle.gh_mutator.specs.Processing.{Processor}
use Rattle.gh_mutator.specs.Mutating.{asks, begins, gives, listing, marks_after, Mutating}
use Rattle.gh_mutator.specs.Processor.{at_task}

abbrev pub is_load : Ask → Bool
is_load (Load cell) = true
is_load _ = false

-- with nothing begun, this processor, and one statement more answered
abbrev pub rested : Mutating → Processor → Answer → Mutating
rested m p a = record m { processor = at_task p Idle; marks = marks_after m.marks (Some a) }

-- the operation begun at m is answered this fault by its step number n, counted from 0
pub record FaultChangesNothing (l : Layout) (m : Mutating) (o : Op) (found : ℕ → ℕ) (n : ℕ) (cause : Cause) : Type 0 where
  -- no step up to that one writes a word
  pub loads : (i : ℕ) → i ≤ n → is_load (asks l (told (listing l) (begins m o) found i)) ≡ true
  -- and the processor is what it was: its registers, its numbers of objects, its cached spans
  pub stays : told (listing l) (begins m o) found (suc n) ≡ rested m m.processor (Fault cause)

-- whatever the steps find
abbrev pub FaultsChangeNothing : Type 0
FaultsChangeNothing = (l : Layout) (m : Mutating) (o : Op) (found : ℕ → ℕ) (n : ℕ) (cause : Cause) →
    gives l (told (listing l) (begins m o) found n) (found n) ≡ Some (Fault cause) → FaultChangesNothing l m o found n cause
