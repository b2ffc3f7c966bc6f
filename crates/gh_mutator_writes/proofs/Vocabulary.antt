-- The names that several files of proofs/ share.
pub use Rattle.std.proofs.lemmas.Bool.Decides.{nat_tests}
pub use Rattle.gh_alloc.specs.Marking.{AnObjectIsMarkedBeforeItIsMade, IsMadeUnmarked}
pub use Rattle.gh_assist.specs.Paying.{AssistsPay}
pub use Rattle.gh_assist.specs.Quiet.{AssistsAreQuiet, WritesSo}
pub use Rattle.gh_base.specs.Routines.{Listing, told}
pub use Rattle.gh_base.specs.Rows.{CellsAreTold}
pub use Rattle.gh_base.specs.declared.value.Value.{Value}
pub use Rattle.gh_mutator.proofs.Steps.{FaultsFrom, GoesTo}
pub use Rattle.gh_mutator.proofs.Telling.{held_before, told_first}
pub use Rattle.gh_mutator.specs.Faults.{FaultsChangeNothing, is_load, rested}
pub use Rattle.gh_mutator.specs.Listing.{after_gc, after_leave, after_poll, applied, begins_at, begun_with, follows, once_ended}
pub use Rattle.gh_mutator.specs.MarkVocabulary.{Held}
pub use Rattle.gh_mutator.specs.New.{assists, seeking}
pub use Rattle.gh_mutator.specs.Processor.{at_task, cache_span, keeping, register_of, taking}
pub use Rattle.gh_mutator.specs.ProcessorPlaces.{party_at, party_of, ProcessorInHandshake, SoundAt, SoundNewAt, stage_at, stage_of}
pub use Rattle.gh_mutator.specs.Running.{ScansItsOwn, ShadesByWish, SoundAssist, SoundAssistAt, SoundScanAt}
pub use Rattle.gh_mutator.specs.Serving.{answer_at, has_left_at, is_serving}
pub use Rattle.gh_mutator.specs.Stays.{assist_spent, search_wants}
pub use Rattle.gh_mutator.specs.Vocabulary.{Answer, Assisting, At, CachedSpan, EndsWithin, Found, Large, Leaving, Name, NoRoom, Placing, Seeking, Small, Sought, Waiting}
pub use Rattle.gh_mutator.specs.declared.global.Global.{Global}
pub use Rattle.gh_mutator.specs.declared.load.Load.{Load}
pub use Rattle.gh_mutator.specs.declared.new.NewStage.TheVariants.{Search, Want}
pub use Rattle.gh_mutator.specs.declared.new.Wanted.{Wanted}
pub use Rattle.gh_mutator.specs.declared.step.Step.{Step}
pub use Rattle.gh_mutator.specs.declared.step.Then.{Then}
pub use Rattle.gh_mutator.specs.declared.store.Store.{Store}
pub use Rattle.gh_mutator_writes.specs.Calm.{CalmProcessorsMarkNothing, FindsNoMarking, GivesNoBuffer, HoldsNoBuffer, IsCalm, IsNoBuffer, IsWrittenCalmly, KnowsNoMarking, LeavesWithNone, MakesWithNone, PollsWithNone, RunsWithNone, SetsWithNone, StoresWithNone, WaitsWithNone}
pub use Rattle.gh_mutator_writes.specs.Vocabulary.{after_assist, after_place, after_search, after_wait, answer_search, Ask, asks, asks_at, Assist, at_poll, begins, Cell, gives, gives_at, GlobalStage, goes, is_busy_at, IsAssisting, Layout, LeaveStage, listing, marking_at, marks_after, Mutating, NewStage, Op, Place, Polling, PollStage, Processor, processor_kind, Shape, stacks_with, StoreStage, takes_at, Task, Wait, WaitStage, wanted_of}
pub use Rattle.gh_mutator_writes.specs.Writing.{BeginsToWait, IsWanting, IsWritten, ProcessorWritesItsOwn, StacksAreNoted, WritesOf}
pub use Rattle.gh_phase.specs.declared.view.RunPhase.{RunPhase}
pub use Rattle.gh_poll.specs.Collecting.{ResumeStage}
pub use Rattle.gh_poll.specs.Handshake.{poller_at, polls_at, PollsSoundAt, waiter_at, waits_at, WaitsSoundAt}
pub use Rattle.gh_poll.specs.Local.{cache_with, cached_in, is_mark, with_ended}
pub use Rattle.gh_poll.specs.Stays.{ends_later, found_on, poll_spent, shaded_on, wait_seat, wait_spent, wait_stacks}
pub use Rattle.gh_poll.specs.declared.give.GiveStage.{GiveStage}
pub use Rattle.gh_poll.specs.declared.mark_stack.MarkStackStage.{MarkStackStage}
pub use Rattle.gh_poll.specs.declared.poll.Local.{Local}
pub use Rattle.gh_poll.specs.declared.wait.Wait.{Wait as WaitState}
