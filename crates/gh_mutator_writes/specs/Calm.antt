-- A processor while marking is off: it holds no buffer, knows of no marking, and marks nothing, also no object that it makes.
use Rattle.std.specs.Prelude.{◌≡◌, ◌≢◌, ℕ, true, false, List, Some, None}
use Rattle.gh_mutator_writes.specs.Vocabulary.{Ask, asks, Assist, Cell, effect, GlobalStage, is_busy_at, IsSweeping, Layout, LeaveStage, NewStage, Op, opening_processor, Place, Polling, PollStage, Processor, processor_kind, Shape, StoreStage, takes, Task, Wait, WaitStage, Words}
use Rattle.gh_base.specs.Packing.{phase_of}
use Rattle.gh_alloc.specs.Marking.{IsMadeUnmarked}
use Rattle.gh_phase.specs.declared.resume.ResumeStage.TheVariants.{Acknowledge, LoadPhase}
use Rattle.gh_phase.specs.declared.view.RunPhase.{RunPhase}
use Rattle.gh_phase.specs.Handshake.{Gone, Resumes, Party, Stage}
use Rattle.gh_phase.specs.Views.{run_phase}
use Rattle.gh_poll.specs.declared.give.GiveStage.TheVariants.{GiveBuffer}
use Rattle.gh_poll.specs.declared.poll.PollStage.TheVariants.{FindRoom, Giving, Marking}
use Rattle.gh_poll.specs.Give as give
use Rattle.gh_mutator.specs.MarkVocabulary.{Cycle, IsParked, Shared, SoundPlace, stage_of}
use Rattle.gh_mutator.specs.ProcessorPlaces.{party_of}
use Rattle.gh_poll.specs.declared.give.GiveStage.{GiveStage}
use Rattle.gh_mutator.specs.ProcessorMarks.{MarkFacts}
use Rattle.gh_mutator_writes.specs.Writing.{EndsStack, WritesOf}

-- No buffer is held, also within the giving back.
abbrev pub IsNoBuffer : GiveStage → Type 0
IsNoBuffer (GiveBuffer b) = ⊥
IsNoBuffer _ = Unit {0}

abbrev pub GivesNoBuffer : give.Giving → Type 0
GivesNoBuffer g = (g.held ≡ None) × IsNoBuffer g.stage

-- a poll takes none: no stack is scanned, and no buffer looked for
abbrev pub PollsWithNone : PollStage → Type 0
PollsWithNone (Giving g stops) = GivesNoBuffer g
PollsWithNone (Marking g m) = ⊥
PollsWithNone (FindRoom r) = ⊥
PollsWithNone _ = Unit {0}

abbrev pub LeavesWithNone : LeaveStage → Type 0
LeavesWithNone (LeaveStage.Giving g) = GivesNoBuffer g
LeavesWithNone _ = Unit {0}

-- no write of a pointer is begun
abbrev pub StoresWithNone : StoreStage → Type 0
StoresWithNone (StoreStage.Writing w) = ⊥
StoresWithNone _ = Unit {0}

abbrev pub SetsWithNone : GlobalStage → Type 0
SetsWithNone (GlobalStage.Writing w) = ⊥
SetsWithNone _ = Unit {0}

module _ (p : Polling) where
  abbrev pub WaitsWithNone : WaitStage → Type 0
  WaitsWithNone WaitStage.Polling = PollsWithNone p.stage
  WaitsWithNone _ = Unit {0}

  -- an object whose making has begun is not marked, and no assist runs
  abbrev pub MakesWithNone : NewStage → Type 0
  MakesWithNone (Wait x) = WaitsWithNone x.stage
  MakesWithNone (Place y) = IsMadeUnmarked y
  MakesWithNone (Assist n x) = ⊥
  MakesWithNone _ = Unit {0}

  abbrev pub RunsWithNone : Task → Type 0
  RunsWithNone (Task.Store x) = StoresWithNone x.stage
  RunsWithNone (Task.Global x) = SetsWithNone x.stage
  RunsWithNone Task.Poll = PollsWithNone p.stage
  RunsWithNone (Task.New x) = MakesWithNone x.stage
  RunsWithNone (Task.Gc g x) = WaitsWithNone x.stage
  RunsWithNone (Task.Leave x) = LeavesWithNone x.stage
  RunsWithNone _ = Unit {0}

pub record HoldsNoBuffer (m : Processor) : Type 0 where
  pub none : m.poll.local.held ≡ None
  pub runs : RunsWithNone m.poll m.task

-- What it knows of the phase is not that it is marking, save where it is about to load the phase behind a stop, or is gone.
abbrev pub KnowsNoMarking : Party → Stage → Type 0
KnowsNoMarking party (Resumes stops Acknowledge) = Unit {0}
KnowsNoMarking party (Resumes stops LoadPhase) = Unit {0}
KnowsNoMarking party Gone = Unit {0}
KnowsNoMarking party _ = party.view.phase ≢ RunPhase.Mark

pub record IsCalm (m : Processor) : Type 0 where
  pub holds : HoldsNoBuffer m
  pub knows : KnowsNoMarking (party_of m) (stage_of m)

-- a load of the phase does not find that it is marking
abbrev pub FindsNoMarking : Ask → (found : ℕ) → Type 0
FindsNoMarking step found = step ≡ Ask.Load Cell.Phase → run_phase (phase_of found).phase ≢ Some RunPhase.Mark

-- Mark bits, but those that a sweep clears, buffers and their entries it leaves, and of a stack it tells its end alone.
abbrev pub IsWrittenCalmly : Layout → Processor → Cell → Type 0
IsWrittenCalmly l m (Cell.Mark i) = IsSweeping m
IsWrittenCalmly l m (Cell.Buffer i) = ⊥
IsWrittenCalmly l m (Cell.Entry i j) = ⊥
IsWrittenCalmly l m (Cell.Scanned g) = EndsStack l m g
IsWrittenCalmly l m _ = Unit {0}

pub record CalmProcessorsMarkNothing : Type 0 where
  pub first : (seat : ℕ) → IsCalm (opening_processor seat)
  pub begins : (shapes : List Shape) (l : Layout) (m : Processor) (o : Op) → SoundPlace m → is_busy_at m.task ≡ false → IsCalm m → IsCalm ((processor_kind shapes l).begins m o)
  -- it is calm as long as the phases that it finds are not that of marking
  pub lasts : (l : Layout) (shapes : List Shape) (m : Processor) (found : ℕ) → SoundPlace m → is_busy_at m.task ≡ true → IsCalm m → FindsNoMarking (asks l m) found → IsCalm (takes l shapes m found)
  -- and holds no buffer also behind the step that finds that one
  pub holds : (l : Layout) (shapes : List Shape) (m : Processor) (found : ℕ) → IsCalm m → HoldsNoBuffer (takes l shapes m found)
  pub writes : (l : Layout) (m : Processor) → IsCalm m → WritesOf (IsWrittenCalmly l m) (asks l m)
  pub leaves : (l : Layout) (m : Processor) (words : Words) (c : Cell) → IsCalm m → (IsWrittenCalmly l m c → ⊥) → effect words (asks l m) c ≡ words c
  -- where a cycle's marking has ended, one that stands still is calm
  pub behind : (z : Cycle) (a : ℕ) (s : Shared) (m : Processor) (stops : ℕ) → IsParked stops (stage_of m) → MarkFacts z a s m → IsCalm m
