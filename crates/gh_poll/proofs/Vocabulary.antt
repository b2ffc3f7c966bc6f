-- The names that several files of proofs/ share.
pub use Rattle.std.proofs.lemmas.Bool.Decides.{nat_tests}
pub use Rattle.gh_alloc.specs.FindSound.{IsCached}
pub use Rattle.gh_alloc.specs.declared.sought.Sought.TheVariants.{Large, Small}
pub use Rattle.gh_base.specs.Machines.{IsRoutine}
pub use Rattle.gh_base.specs.Reading.{read_after_set, read_replicate}
pub use Rattle.gh_marks.specs.Moves.{IsQuietInMarking, lands_by, lands_still, Quiet}
pub use Rattle.gh_phase.specs.Handshake.{FromAwake, Resumes, StageGoes}
pub use Rattle.gh_poll.specs.Cached.{SoundCached}
pub use Rattle.gh_poll.specs.Due.{due_scans, IsUnscanned}
pub use Rattle.gh_poll.specs.Give.{after_buffer, asks, first_cached, Giving, giving_buffer, goes, goes_at, head_store, none_cached, stage_from}
pub use Rattle.gh_poll.specs.GiveSound.{FitsCache, SoundGiving}
pub use Rattle.gh_poll.specs.Giving.{buffer_fine, first_fine, GivingFacts, opening_fine}
pub use Rattle.gh_poll.specs.Handshake.{GivesSo, GoesOnWithNothing, HasPlaces, IsPlace, LeavesInHandshake, poll_stage_of, poller_at, poller_of, polls_at, PollsInHandshake, PollsSoundAt, SoundPoll, SoundWait, wait_stage_of, waiter_at, waiter_of, waits_at, WaitsInHandshake, WaitsSoundAt}
pub use Rattle.gh_poll.specs.MarkFacts.{GiveFacts, GiveStageFacts, holding_only, IsBetween, KnowsCycle, KnowsNumber, KnowsStacks, LeaveFacts, LeavesByMoves, LooksForRoom, pending, PollEndsWithRoom, PollFacts, PollsByMoves, PollStageFacts, RestFacts, ScanFacts, ScanStageFacts, ShadesWish, stacks_last, WaitFacts, WaitsByMoves, WaitStageFacts}
pub use Rattle.gh_poll.specs.MarkStack.{by_wish, goes_on, StackMarking}
pub use Rattle.gh_poll.specs.MarkVocabulary.{cell_of, Cycle, effect, Good, Hands, InHand, IsOf, Keeps, KnowsObject, KnowsObjects, landing, moved, nothing, Others, ScanStack, Shared, Steps}
pub use Rattle.gh_poll.specs.Poll.{after_mark, after_resume, after_room, asks_at, by_phase, counted, due, first_due, giving, is_busy, marks_then, Polling, resumed, scanned, scans, stops_then}
pub use Rattle.gh_poll.specs.PollSound.{SoundLocal, SoundPolling}
pub use Rattle.gh_poll.specs.Quiet.{WhatPollsRunIsQuiet}
pub use Rattle.gh_poll.specs.Vocabulary.{Ask, Awake, CachedSpan, Cell, END, GiveBuffer, Gives, GiveSpan, GiveStage, GONE, Held, IsHeld, IsQuietInHandshake, Layout, LeaveStage, Load, LoadPhase, Local, Lock, Marking, MarkStackStage, Or, pages_of, phase_of, PollStage, REGISTERS, Resumed, Resuming, run_phase, RunPhase, Runs, Shaded, span_index, StackStage, Stage, Store, Swap, Unlock, Value, WaitStage}
pub use Rattle.gh_poll.specs.Wait.{after_poll, at_stage, given, gives, polling, PollsOn, Waiting}
pub use Rattle.gh_poll.specs.declared.give.GiveStage.TheVariants.{Ended}
pub use Rattle.gh_poll.specs.declared.poll.PollStage.TheVariants.{FindRoom}
pub use Rattle.gh_poll.specs.declared.wait.WaitStage.TheVariants.{LoadSwept, Want}
pub use Rattle.gh_scan.specs.Listing.{reference_in}
pub use Rattle.gh_scan.specs.Quiet.{MarkingIsQuiet}
pub use Rattle.gh_stack.specs.Listing.{after_shade, first_reference, is_waiting, opening, StackScan, told_shaded, wish_of}
pub use Rattle.gh_wbuf.specs.Sound.{SoundBufferGiving, SoundRoomFinding}
