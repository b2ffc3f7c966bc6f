-- The credit that a processor has spent: the words that it has drawn from the bank, each once. And the words of marking that it owes.
use Rattle.std.specs.Prelude.{◌≡◌, ◌⊎◌, ℕ, false, true, List, Some}
use Rattle.gh_mutator.specs.Vocabulary.{Assist, Assisting, goes, Layout, marking_at, Name, NewStage, Op, Polling, PollStage, resumed, Shape, Task, Wanted}
use Rattle.gh_assist.specs.Listing as assist
use Rattle.gh_phase.specs.declared.resume.Resumed.{Resumed}
use Rattle.gh_phase.specs.Listing as resume
use Rattle.gh_phase.specs.Listing.{Resuming}
use Rattle.gh_mutator.specs.Deeds.{processor_kind}
use Rattle.gh_mutator.specs.Listing.{is_busy_at, takes}
use Rattle.gh_mutator.specs.New.{assists}
use Rattle.gh_mutator.specs.Processor.{opening_processor}
use Rattle.gh_mutator.specs.Processing.{Processor}
use Rattle.gh_mutator.specs.Running.{IsAssisting, IsSound}

-- while it assists, the assist counts
abbrev pub spent_new : Polling → NewStage → ℕ
spent_new p (Assist n x) = x.spent
spent_new p _ = p.local.spent

abbrev pub spent_in_task : Polling → Task → ℕ
spent_in_task p (Task.New x) = spent_new p x.stage
spent_in_task p _ = p.local.spent

abbrev pub spent_of : Processor → ℕ
spent_of m = spent_in_task m.poll m.task

-- What it owes; while it assists, the assist counts that too.
abbrev pub owed_new : Polling → NewStage → ℕ
owed_new p (Assist n x) = x.owed
owed_new p _ = p.local.owed

abbrev pub owed_at : Polling → Task → ℕ
owed_at p (Task.New x) = owed_new p x.stage
owed_at p _ = p.local.owed

abbrev pub owed_of : Processor → ℕ
owed_of m = owed_at m.poll m.task

-- it owes nothing where marking is off, as it knows
abbrev pub OwesWhileMarking : Processor → Type 0
OwesWhileMarking m = marking_at m.poll ≡ false → owed_of m ≡ 0

pub record DebtsAreDropped : Type 0 where
  pub at_first : (seat : ℕ) → owed_of (opening_processor seat) ≡ 0
  pub begins : (shapes : List Shape) (l : Layout) (m : Processor) (o : Op) → is_busy_at m.task ≡ false → owed_of ((processor_kind shapes l).begins m o) ≡ owed_of m
  -- who does not know of marking owes nothing: so it is at first, where an operation begins, and so behind each step
  pub off_begins : (shapes : List Shape) (l : Layout) (m : Processor) (o : Op) → is_busy_at m.task ≡ false → OwesWhileMarking m → OwesWhileMarking ((processor_kind shapes l).begins m o)
  pub off : (l : Layout) (shapes : List Shape) (m : Processor) (found : ℕ) → IsSound l m → is_busy_at m.task ≡ true → OwesWhileMarking m → OwesWhileMarking (takes l shapes m found)
  -- where it learns behind a stop that another cycle has begun, what it owed is dropped
  pub other_cycle : (p : Polling) (out : Resumed) → out.another_cycle ≡ true → (resumed p out).local.owed ≡ 0
  pub other_cycle_step : (l : Layout) (p : Polling) (r : Resuming) (found : ℕ) (out : Resumed) → p.stage ≡ PollStage.Resuming r → resume.gives r found ≡ Some out → out.another_cycle ≡ true → (goes l p found).local.owed ≡ 0
  -- behind a step of an assist it owes what that says, and behind any other as much as before, or nothing
  pub assists_so : (l : Layout) (shapes : List Shape) (m : Processor) (found : ℕ) (w : Wanted) (n : Name) (x : Assisting) → m.task ≡ assists w n x → owed_of (takes l shapes m found) ≡ (assist.goes l x found).owed
  pub stays : (l : Layout) (shapes : List Shape) (m : Processor) (found : ℕ) → IsSound l m → is_busy_at m.task ≡ true → (IsAssisting m.task → ⊥) → (owed_of (takes l shapes m found) ≡ owed_of m) ⊎ (owed_of (takes l shapes m found) ≡ 0)
