-- What the job of an actor is: where it begins, where a processor stands between two of its turns, and what it has come to.
use Rattle.std.specs.Prelude.{◌≡◌, ℕ, zero, suc, ◌+◌, ◌<◌, ◌≤◌, true, false, if◌then◌else◌, List, [], ◌∷◌, ◌++◌, length, map, reverse, slice_get, Option, None, ⊤}
use Rattle.std.specs.List.{filter}
use Rattle.std.specs.Vec.{vec_capacity}
use Rattle.gh_base.specs.declared.machine.Entry.{Entry}
use Rattle.gh_base.specs.declared.operation.Op.{Op}
use Rattle.gh_base.specs.declared.value.Answer.{Answer}
use Rattle.gh_base.specs.Cells.{seats_of}
use Rattle.gh_lines.specs.Text.{answers_by}
use Rattle.gh_mutator.specs.Deeds.{has_point}
use Rattle.gh_mutator.specs.Serving.{is_statement}
use Rattle.gh_run.specs.declared.job.HeapJob.{HeapJob}
use Rattle.gh_script.specs.Program.{Program}
use Rattle.gh_shared.specs.declared.handle.Handle.{Handle}
use Rattle.gh_shared.specs.declared.heap.Heap.{Heap}
use Rattle.gh_shared.specs.Handles.{ended_of, IsFresh, IsHandleOf, IsHeapOf, machine_of, number_of, own_of, plan_of, room_of, view_of}
use Rattle.gh_actor.specs.Machines.{IsProcessor}
use Rattle.gh_actor.specs.Plans.{Planned, setting}
use Rattle.gh_world.specs.declared.progress.Progress.{Progress}
use Rattle.gh_world.specs.After.{KeepsPlace}
use Rattle.gh_lists.specs.Order.{begun_in}
use Rattle.gh_lists.specs.Processors.{arena_of, given_of}
use Rattle.gh_world.specs.Turns.{is_run_due, its_goroutine, leave_is_begun, statements_among, to_come, total_by, turns_of}
use Rattle.gh_world.specs.World.{AreTurns, opening_progress}

-- ---- answers

-- an answer with its goroutine, where the operation is a statement
abbrev pub told : Op → Answer → List (ℕ × Answer)
told o answer = if is_statement o then (its_goroutine o, answer) ∷ [] else []

-- the answers of the statements among these operations, each with its goroutine and the first of them first, where these are the operations and their answers, the newest first
abbrev pub told_in_order : List Op → List Answer → List (ℕ × Answer)
told_in_order [] given = []
told_in_order (o ∷ os) [] = []
told_in_order (o ∷ os) (answer ∷ given) = told_in_order os given ++ told o answer

-- what the statements of processor a were answered, by its own entries: polls and the leave are given no answer
abbrev pub answers_in : (p : Planned) (a : ℕ) (own : List (Entry Op)) → List (ℕ × Answer)
answers_in p a own = told_in_order (filter has_point (begun_in own)) (given_of (arena_of p.script.shapes p.layout) (setting p).opening a own)

-- answers of goroutine g, each with it
abbrev pub of_goroutine : (g : ℕ) → List Answer → List (ℕ × Answer)
of_goroutine g answers = map (λ (answer : Answer). (g, answer)) answers

-- what statement n of goroutine g was answered, counted from 1, among answers each with its goroutine
abbrev pub answer_among : List (ℕ × Answer) → (g n : ℕ) → Option Answer
answer_among answers g zero = None
answer_among answers g (suc n) = slice_get (answers_by g answers) n

-- ---- one job

-- what tells one job from another: its heap, its script and its actor
pub record WhichJob : Type 0 where
  pub heap : Heap
  pub script : Program
  pub actor : ℕ

abbrev pub which_job : {G : Type 0} → HeapJob G → WhichJob
which_job j = record { heap = j.heap.now; script = j.script.now; actor = number_of j.handle }

module _ (p : Program) (heap : Heap) (h : Handle) (t : Progress) (answers : List (ℕ × Answer)) (room : ℕ) where
  -- nothing is begun, and nothing answered; the first of the actor's turns comes next, and there is room for the answers of all its statements
  pub record IsAtStart : Type 0 where
    pub script : IsHeapOf p heap
    pub fresh : IsFresh heap (number_of h) h
    pub first : t ≡ opening_progress t.next
    pub come : to_come p (number_of h) t.next ≡ turns_of p (number_of h)
    pub turns : AreTurns p (number_of h) t
    pub going : leave_is_begun t.next ≡ false
    pub none : answers ≡ []
    pub roomy : total_by p (number_of h) ≤ room

  -- A processor between two of its turns: it keeps its place among them, has kept what its entries give, and there is room for the answers of the statements that are to come. Before what follows a poll a store has room for its entries.
  pub record IsBetweenTurns : Type 0 where
    pub script : IsHeapOf p heap
    pub of : IsHandleOf heap h
    pub alone : (view_of h).actors ≡ number_of h ∷ []
    pub processor : IsProcessor (machine_of h)
    pub turns : AreTurns p (number_of h) t
    pub place : KeepsPlace p (number_of h) t (view_of h).log
    pub left : ended_of h ≡ leave_is_begun t.next
    pub polled : is_run_due t.next ≡ true → 2 ≤ room_of h
    pub kept : answers ≡ answers_in (plan_of heap) (number_of h) (own_of h)
    pub roomy : length answers + statements_among (to_come p (number_of h) t.next) ≤ room

-- The actor has ended. What a processor has begun is its turns, and its answers are what its entries give.
pub record IsAtEnd (p : Program) (heap : Heap) (h : Handle) (answers : List (ℕ × Answer)) : Type 0 where
  pub script : IsHeapOf p heap
  pub of : IsHandleOf heap h
  pub alone : (view_of h).actors ≡ number_of h ∷ []
  pub over : ended_of h ≡ true
  pub turns : number_of h < (plan_of heap).layout.procs → reverse (begun_in (own_of h)) ≡ turns_of p (number_of h)
  pub kept : number_of h < (plan_of heap).layout.procs → answers ≡ answers_in (plan_of heap) (number_of h) (own_of h)

-- ---- jobs by their places

-- each has what is said of its place, the first of which is n
abbrev pub EachFrom : {X : Type 0} → (ℕ → X → Type 0) → (n : ℕ) → List X → Type 0
EachFrom P n [] = ⊤
EachFrom P n (x ∷ xs) = P n x × EachFrom P (suc n) xs

module _ {G : Type 0} (p : Program) (heap : Heap) where
  -- the job of actor a of this heap, which runs this script, before its first step
  pub record IsJobOf (a : ℕ) (j : HeapJob G) : Type 0 where
    pub which : which_job j ≡ record { heap = heap; script = p; actor = a }
    pub start : IsAtStart p heap j.handle j.progress j.answers.items (vec_capacity j.answers)

  -- and that job at its end
  pub record IsDoneOf (a : ℕ) (j : HeapJob G) : Type 0 where
    pub which : which_job j ≡ record { heap = heap; script = p; actor = a }
    pub end : IsAtEnd p heap j.handle j.answers.items

  -- one for each actor, in the order of their numbers
  pub record AreJobsOf (jobs : List (HeapJob G)) : Type 0 where
    pub many : length jobs ≡ seats_of (plan_of heap).layout
    pub each : EachFrom IsJobOf 0 jobs

  pub record AreDoneOf (jobs : List (HeapJob G)) : Type 0 where
    pub many : length jobs ≡ seats_of (plan_of heap).layout
    pub each : EachFrom IsDoneOf 0 jobs
