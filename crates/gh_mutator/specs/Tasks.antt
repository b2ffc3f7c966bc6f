-- A task as it is kept: a tag, in which small ones stand themselves, and a large one beside it, which counts only where the tag says so.
use Rattle.std.specs.Prelude.{Bool, true, false}
use Rattle.gh_mutator.specs.Vocabulary.{Ends, Global, GlobalStage, GoesOn, Step, Task, Then}
use Rattle.gh_mutator.specs.declared.global.Direct.{Direct}
use Rattle.gh_mutator.specs.declared.global.DirectStage.{DirectStage}
use Rattle.gh_mutator.specs.declared.global.GlobalWrite.{GlobalWrite}
use Rattle.gh_mutator.specs.declared.task.LargeTask.{LargeTask}
use Rattle.gh_mutator.specs.declared.task.TaskAt.{TaskAt}

-- the load or the store of a global, without a write barrier and behind one
abbrev pub stage_of : DirectStage → GlobalStage
stage_of DirectStage.Load = GlobalStage.Load
stage_of (DirectStage.Birth a) = GlobalStage.Birth a
stage_of DirectStage.Store = GlobalStage.Store
stage_of DirectStage.Number = GlobalStage.Number

abbrev pub global_of : Direct → Global
global_of x = record { g = x.g; r = x.r; k = x.k; stage = stage_of x.stage }

abbrev pub write_of : GlobalWrite → Global
write_of x = record { g = x.g; r = x.r; k = x.k; stage = GlobalStage.Writing x.write }

abbrev pub direct : Direct → Task
direct x = Task.Global (global_of x)

-- what its step does, and what follows
abbrev pub then_global : Then Direct → Then Global
then_global (GoesOn x) = GoesOn (global_of x)
then_global (Ends a) = Ends a

abbrev pub as_global : Step Direct → Step Global
as_global s = record { then = then_global s.then; sets = s.sets; acts = s.acts }

abbrev pub task_of : LargeTask → Task
task_of (LargeTask.Store x) = Task.Store x
task_of (LargeTask.Write x) = Task.Global (write_of x)
task_of (LargeTask.New x) = Task.New x
task_of (LargeTask.Leave x) = Task.Leave x

abbrev pub task_kept : TaskAt → LargeTask → Task
task_kept TaskAt.Idle kept = Task.Idle
task_kept TaskAt.Left kept = Task.Left
task_kept (TaskAt.Load x) kept = Task.Load x
task_kept (TaskAt.Direct x) kept = direct x
task_kept (TaskAt.Register x) kept = Task.Register x
task_kept (TaskAt.Gc g x) kept = Task.Gc g x
task_kept TaskAt.Poll kept = Task.Poll
task_kept (TaskAt.End g) kept = Task.End g
task_kept TaskAt.Large kept = task_of kept

-- a task that is kept as a large one
abbrev pub is_large_global : GlobalStage → Bool
is_large_global (GlobalStage.Writing w) = true
is_large_global _ = false

abbrev pub is_large : Task → Bool
is_large (Task.Store x) = true
is_large (Task.Global x) = is_large_global x.stage
is_large (Task.New x) = true
is_large (Task.Leave x) = true
is_large _ = false
