-- While a cycle is marked each actor has something in hand, or nothing, as its stage says: so it holds one buffer at most.
use Rattle.std.proofs.Common.{ℕ, Option, arith}
use Rattle.gh_law.proofs.Vocabulary.{buffers_as_held, Cycle, GlobalFacts, GlobalStage, Held, HoldsBuffer, LeaveStage, MarkFacts, Marking, NewStage, Polling, Processor, StoreFacts, Task, TaskFacts, WaitStage, Working}
use Rattle.gh_assist.specs.declared.assist.AssistStage.{AssistStage}
use Rattle.gh_assist.specs.Facts as assisting
use Rattle.gh_marks.specs.Seats.{InHand, Hands}
use Rattle.gh_mutator.specs.declared.store.Store.{Store}
use Rattle.gh_mutator.specs.declared.store.StoreStage.{StoreStage}
use Rattle.gh_poll.specs.MarkFacts.{LeaveFacts, PollFacts, WaitStageFacts}
use Rattle.gh_mutator.specs.ProcessorMarks.{NewFacts}
use Rattle.gh_worker.specs.MarkFacts as marks

module _ (z : Cycle) (a : ℕ) (s : Marking) where
  abbrev HasSome : Type 0
  HasSome = (held : Option Held) × HoldsBuffer (buffers_as_held s.words s.filled) a held

  by_hand : (hand : InHand) → Hands a s hand → HasSome
  by_hand hand h = (hand.held, h.holds)

  -- Workers.

  pub worker_has : (w : Working) → marks.Facts z a s w → HasSome
  worker_has w f = grind arith

  -- Processors.

  poll_has : (p : Polling) → PollFacts z a s p → HasSome
  poll_has p f = grind arith

  wait_has : (p : Polling) (q : WaitStage) → WaitStageFacts z a s p q → HasSome
  wait_has p q f = grind arith

  leave_has : (q : LeaveStage) → LeaveFacts z a s q → HasSome
  leave_has q f = grind arith

  store_has : (p : Polling) (x : Store) (q : StoreStage) → StoreFacts z a s p x q → HasSome
  store_has p x q f = grind arith

  global_has : (p : Polling) (q : GlobalStage) → GlobalFacts z a s p q → HasSome
  global_has p q f = grind arith

  assist_has : (held : Option Held) (q : AssistStage) → assisting.StageFacts z a s held q → HasSome
  assist_has held q f = grind arith

  new_has : (p : Polling) (q : NewStage) → NewFacts z a s p q → HasSome
  new_has p q f = grind (arith, assist_has, by_hand, wait_has)

  task_has : (p : Polling) (t : Task) → TaskFacts z a s p t → HasSome
  task_has p t f = grind (arith, by_hand, global_has, leave_has, new_has, poll_has, store_has, wait_has)

  pub processor_has : (m : Processor) → MarkFacts z a s m → HasSome
  processor_has m f = grind (arith, task_has)
