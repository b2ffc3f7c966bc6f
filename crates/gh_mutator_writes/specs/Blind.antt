-- The stores of a processor are blind: whatever word one overwrites, the processor goes over to the same, and the operation is answered the same.
use Rattle.std.proofs.Common.{ap, arith, ◌≡◌, ℕ, true, List, Option}
use Rattle.gh_mutator_writes.specs.Vocabulary.{asks_at, gives, gives_at, GlobalStage, goes, Layout, LeaveStage, marking_at, marks_after, Mutating, NewStage, Polling, PollStage, Processor, Shape, StoreStage, takes_at, Task, WaitStage}
use Rattle.gh_base.specs.Blind.{is_store, StoresAreBlind}
use Rattle.gh_base.specs.declared.held.Held.{Held}
use Rattle.gh_poll.specs.declared.poll.Local.{Local}
use Rattle.gh_mutator.specs.Global as global
use Rattle.gh_poll.specs.Leave as leave
use Rattle.gh_mutator.specs.Load as load
use Rattle.gh_mutator.specs.Mutating.{asks}
use Rattle.gh_mutator.specs.New as new
use Rattle.gh_poll.specs.Poll.{after_mark, after_resume, after_room, stops_then}
use Rattle.gh_poll.specs.Poll as poll
use Rattle.gh_mutator.specs.Serving.{answer_at}
use Rattle.gh_mutator.specs.Store as store
use Rattle.gh_mutator.specs.Vocabulary.{Answer, Leaving, Value, Waiting}
use Rattle.gh_mutator.specs.declared.global.Global.{Global}
use Rattle.gh_mutator.specs.declared.load.Load.{Load}
use Rattle.gh_mutator.specs.declared.load.LoadStage.{LoadStage}
use Rattle.gh_mutator.specs.declared.step.Step.{Step}
use Rattle.gh_mutator.specs.declared.store.Store.{Store}
use Rattle.gh_mutator.specs.declared.new.Wanted.{Wanted}
use Rattle.gh_poll.specs.Wait as wait

-- ---- giving back, the scan of a stack, a poll, a wait, and leaving

poll_blind_at : (l : Layout) (p : Polling) (stage : PollStage) (found other : ℕ) → is_store (poll.asks_at stage) ≡ true → poll.goes_at l p stage found ≡ poll.goes_at l p stage other
poll_blind_at l p stage found other e = grind arith

poll_blind : (l : Layout) → StoresAreBlind poll.asks (poll.goes l)
poll_blind l p found other e = poll_blind_at l p p.stage found other e

wait_blind_at : (l : Layout) (w : Waiting) (stage : WaitStage) (found other : ℕ) → is_store (wait.asks_at w stage) ≡ true → wait.goes_at l w stage found ≡ wait.goes_at l w stage other
wait_blind_at l w stage found other e = grind arith

wait_blind : (l : Layout) → StoresAreBlind wait.asks (wait.goes l)
wait_blind l w found other e = wait_blind_at l w w.wait.stage found other e

leave_blind_at : (w : Leaving) (stage : LeaveStage) (found other : ℕ) → is_store (leave.asks_at w stage) ≡ true → leave.goes_at w stage found ≡ leave.goes_at w stage other
leave_blind_at w stage found other e = grind arith

leave_blind : StoresAreBlind leave.asks leave.goes
leave_blind w found other e = leave_blind_at w w.stage found other e

-- ---- the statements

load_blind : (l : Layout) (x : Load) (stage : LoadStage) (found other : ℕ) → is_store (load.asks_at l x stage) ≡ true → load.step_at l x stage found ≡ load.step_at l x stage other
load_blind l x stage found other e = grind arith

-- the buffer that is held behind its step, and what the step does
abbrev stored : Layout → Local → Value → Store → StoreStage → (found : ℕ) → Option Held × Step Store
stored l own v x stage found = (store.held_behind l own.held stage found, store.step_at l own v x stage found)

store_blind : (l : Layout) (own : Local) (v : Value) (x : Store) (stage : StoreStage) (found other : ℕ) → is_store (store.asks_at l v x stage) ≡ true → stored l own v x stage found ≡ stored l own v x stage other
store_blind l own v x stage found other e = grind arith

-- so of a global, where this buffer was held
abbrev global_step : Layout → Option Held → Value → Global → GlobalStage → (found : ℕ) → Option Held × Step Global
global_step l held v x stage found = (global.held_behind l held stage found, global.step_at l v x stage found)

global_blind : (l : Layout) (held : Option Held) (v : Value) (x : Global) (stage : GlobalStage) (found other : ℕ) → is_store (global.asks_at l v x stage) ≡ true → global_step l held v x stage found ≡ global_step l held v x stage other
global_blind l held v x stage found other e = grind arith

-- ---- the processor

-- the processor behind the step, and what the operation is answered if it ends
abbrev new_step : Layout → List Shape → Processor → Wanted → NewStage → (found : ℕ) → Processor × Option Answer
new_step l shapes m w s found = (new.takes_at l shapes m w s found, new.gives_at l (marking_at m.poll) s found)

new_blind : (l : Layout) (shapes : List Shape) (m : Processor) (w : Wanted) (s : NewStage) (found other : ℕ) → is_store (new.asks_at l m s) ≡ true → new_step l shapes m w s found ≡ new_step l shapes m w s other
new_blind l shapes m w s found other e = grind arith

abbrev step_by : Layout → List Shape → Processor → Task → (found : ℕ) → Processor × Option Answer
step_by l shapes m t found = (takes_at l shapes m t found, gives_at l m t found)

blind_at : (l : Layout) (shapes : List Shape) (m : Processor) (t : Task) (found other : ℕ) → is_store (asks_at l m t) ≡ true → step_by l shapes m t found ≡ step_by l shapes m t other
blind_at l shapes m t found other e = grind (arith, global_blind, leave_blind, load_blind, new_blind, poll_blind, store_blind, wait_blind)

of_task : (l : Layout) (m : Mutating) (found other : ℕ) → is_store (asks l m) ≡ true → step_by l m.shapes m.processor m.processor.task found ≡ step_by l m.shapes m.processor m.processor.task other
of_task l m found other e = grind (arith, blind_at)

pub blind : (l : Layout) → StoresAreBlind (asks l) (goes l)
blind l m found other e = ap (λ (x : Processor × Option Answer). record m { processor = x.0; marks = marks_after m.marks (answer_at m.processor.task x.1) }) (of_task l m found other e)

pub blind_gives : (l : Layout) (m : Mutating) (found other : ℕ) → is_store (asks l m) ≡ true → gives l m found ≡ gives l m other
blind_gives l m found other e = ap (λ (x : Processor × Option Answer). x.1) (of_task l m found other e)
