-- The names that several files of proofs/ share.
pub use Rattle.std.proofs.Math.Nat.{mul-le-mul_right}
pub use Rattle.std.proofs.lemmas.Nat.{mod_below}
pub use Rattle.std.specs.Int.{bit_at}
pub use Rattle.std.specs.Option.{option_to_list}
pub use Rattle.gh_alloc.specs.Find.{span_for}
pub use Rattle.gh_alloc.specs.declared.place.PlaceStage.{PlaceStage}
pub use Rattle.gh_alloc.specs.declared.sought.Sought.{Sought}
pub use Rattle.gh_alloc.specs.declared.sought.Sought.TheVariants.{Large, Small}
pub use Rattle.gh_base.specs.Cells.{InRange, put, same_cell}
pub use Rattle.gh_base.specs.Footprints.{Footprint, FootprintsHold, Writes}
pub use Rattle.gh_base.specs.Holding.{holder_in}
pub use Rattle.gh_base.specs.Lists.{Begins, Setting}
pub use Rattle.gh_base.specs.Orders.{answered, answered_by, AnsweredDeed, DeedsFit, done_at, with_point}
pub use Rattle.gh_base.specs.Packing.{FitsHead, PackedWordsAreReadBack, phase_of}
pub use Rattle.gh_base.specs.Rows.{with_word}
pub use Rattle.gh_base.specs.Shapes.{shape_at}
pub use Rattle.gh_base.specs.Steps.{left, left as left_by}
pub use Rattle.gh_base.specs.declared.cell.Ask.TheVariants.{Add, And, Load, Or, Store, Swap}
pub use Rattle.gh_base.specs.declared.pack.PageWord.{PageWord}
pub use Rattle.gh_base.specs.declared.pack.PageWord.TheVariants.{Body, Free, Head}
pub use Rattle.gh_base.specs.declared.pack.PhaseWord.{PhaseWord}
pub use Rattle.gh_base.specs.declared.pack.SpanHead.{SpanHead}
pub use Rattle.gh_base.specs.declared.pack.TheConstants.{GONE}
pub use Rattle.gh_base.specs.declared.value.Value.{Value}
pub use Rattle.gh_class.specs.declared.class.SizeClass.{SizeClass}
pub use Rattle.gh_class.specs.declared.class.SpanClass.{SpanClass}
pub use Rattle.gh_coord.specs.Parts.{Begun, Checked, close_part, Part, part_of}
pub use Rattle.gh_coord.specs.declared.coord.CoordStage.TheVariants.{Check, Close, Count, Open, Stop, StopAgain, Sweep, Tell, Watch}
pub use Rattle.gh_coord.specs.declared.count.CountStage.{CountStage}
pub use Rattle.gh_coord.specs.declared.open.OpenStage.{OpenStage}
pub use Rattle.gh_coord.specs.declared.stop.StopStage.{StopStage}
pub use Rattle.gh_coord.specs.declared.sweep_all.SweepAllStage.{SweepAllStage}
pub use Rattle.gh_coord.specs.declared.watch.WatchStage.{WatchStage}
pub use Rattle.gh_cycle.specs.Opening.{reference_of}
pub use Rattle.gh_cycle.specs.Reached.{IsInRange}
pub use Rattle.gh_heap.specs.Moves.{Make, May, Move, moved, Others, placed_at, Steps, Steps as HeapSteps}
pub use Rattle.gh_heap.specs.Objects.{Means}
pub use Rattle.gh_heap.specs.Rights.{Claims}
pub use Rattle.gh_heap.specs.Spans.{is_own_class, IsFull, number_of_class, owned_by, owner_at, owner_in}
pub use Rattle.gh_lists.specs.Beginning.{may_parts, or-true}
pub use Rattle.gh_lists.specs.Counts.{stores_cell}
pub use Rattle.gh_lists.specs.Handshake.{actor_takes, asks as asks_by, is_busy, place_of, Sound, start, WaitsWithNone}
pub use Rattle.gh_lists.specs.Lists.{Given, IsStepIn, may_of, setup_for}
pub use Rattle.gh_lists.specs.Numbers.{ahead_at, generation_after, opened_after, opened_in}
pub use Rattle.gh_lists.specs.Processors.{IsAnothers, IsFullFor, IsOfSpanClass, may_leave, NoRoomFor}
pub use Rattle.gh_lists.specs.Resting.{answers_stay, given_stay, own_stay, runs_are, state_stays}
pub use Rattle.gh_lists.specs.Seats.{IsSeated, other, run_started, seated, worker_started, works}
pub use Rattle.gh_lists.specs.Sweeping.{idle_sweeps_none}
pub use Rattle.gh_lists.specs.Writing.{awake_at, knows_at, leaves_numbers}
pub use Rattle.gh_marked.specs.Checking.{begin_post, begins as begins_cycle, checked_lasts, CheckedAt, CoordinatorGoes, Found, goes_on, goes_so, IsLight, leaves}
pub use Rattle.gh_marked.specs.Drawn.{IsToBegin}
pub use Rattle.gh_marked.specs.HeapBytes.{uncounted}
pub use Rattle.gh_marked.specs.HoldVocabulary.{Answer, CoordStage, generation_of, Good, head_word, StateGood}
pub use Rattle.gh_marked.specs.Known.{Known, ListsKnown}
pub use Rattle.gh_marked.specs.Levels.{beyond_goes, colour_goes, far, global_goes, global_there, level, NoneBeyond}
pub use Rattle.gh_marked.specs.Marked.{IsInMarking, Knows, KnowsHeap, LeavesObjects, MarksToTheEnd, MayBegin, StepsByMoves, WasMarked}
pub use Rattle.gh_marked.specs.OwnEntries.{all_ended_at, began_end, or_cases, or_left, state_by}
pub use Rattle.gh_marked.specs.Scanned.{done_by, global_by, global_in_hand, globals_held, globals_in, GlobalsAreCounted, most_scanned, objects_by, objects_in, scanned_by, scanned_in}
pub use Rattle.gh_marked.specs.Spans.{IsForTypes, IsHeadFor, IsPageFor, PagesAreForTypes}
pub use Rattle.gh_marked.specs.StackWords.{LeavesStack, ScansStack, TellsStacks}
pub use Rattle.gh_marked.specs.State.{HasState, is_last_task, IsAsItShould, IsHeapOf, IsKnown, processor_at}
pub use Rattle.gh_marked.specs.Sweepers.{IsInSweep, sweep_of}
pub use Rattle.gh_marked.specs.Vocabulary.{acks_of, Act, acted, Actor, actors, actors_after, acts, acts_at, after_assist, after_gc, after_poll, alloc_words, answer_at, answers_of, Arena, arena, Ask, Black, buffer_of, Buffered, buffers_of, by, Cell, cell_of, ChangesOneCell, Claimed, Colour, Coordinating, CountsPlainly, Cycle, deeds, EachStepGoesByMoves, effect, END, ended_in, ends, EndsClean, Entry, eqb_tells, Ever, ever, first_words, follows, given_of, goes, Hands, Heap, in_range, is_busy_at, IsBeginning, IsBounded, IsChecked, IsEnding, IsInLimits, IsLed, IsLedBy, IsOf, IsSound, IsStartOf, KeepsIt, Kind, Layout, Legal, mark_words, MarkFacts, Marking, MarkingBegins, MarkingGood, MarksByMoves, MarksNothing, Name, nat_tests, NewStage, nothing, Op, Pacing, page_of, page_words, Pending, Placing, Processor, processor_kind, ProcessorFacts, ProcessorWritesItsOwn, Progress, Read, REGISTERS, Right, Row, SameExtent, Scanned, seats_of, SeatSweepsNothing, setting, Setup, setup_in, Shape, ShapesAreGood, Shared, sought_for, started, State, state_of, stays, StepKeepsIt, stored_in, Sweeping, SweepRuns, Taken, takes, takes_at, Task, TellsScan, those, Untouched, View, view, Went, White, Words, words, words_after, WorkersAreRoutines, Working, WritesOf}
unfoldable pub use Rattle.gh_marked.specs.Vocabulary.{row_bit}
pub use Rattle.gh_marked.specs.Weights.{AllGoOn, black_last, by_entry, by_global, by_object, counted, entered_high, grows, stored_rises}
pub use Rattle.gh_marks.specs.Colours.{IsShaded, mark_of}
pub use Rattle.gh_marks.specs.Laws.{EachHandFollows, EachHandLasts, MarkingEndsClean, StepsGoByMoves, TheCursorIsSmall, WhatIsFoundIsDone}
pub use Rattle.gh_marks.specs.Moves.{Quiet}
pub use Rattle.gh_marks.specs.Seats.{ClaimOf, NoClaim, ReadOf}
pub use Rattle.gh_model.specs.Ever.{answer_of, next_name}
pub use Rattle.gh_model.specs.declared.EverValue.{EverValue}
pub use Rattle.gh_mutator.specs.Deeds.{given_at, has_point, meaning, point_of, pointed}
pub use Rattle.gh_mutator.specs.Listing.{acting, after_leave, asks, asks_at, begins, gives, op_at}
pub use Rattle.gh_mutator.specs.New.{assisting, assists, made_task}
pub use Rattle.gh_mutator.specs.Processor.{cache_span, made_by, opening_processor, register_of}
pub use Rattle.gh_mutator.specs.ProcessorMarks.{only_polls}
pub use Rattle.gh_mutator.specs.ProcessorPlaces.{new_stage_at, party_of, SoundAt, SoundPlace, stage_at, stage_of}
pub use Rattle.gh_mutator.specs.Serving.{has_left_at}
pub use Rattle.gh_mutator.specs.Sweeping.{IsSweeping, sweep_at, sweep_in, sweep_new}
pub use Rattle.gh_mutator.specs.declared.new.New.{New}
pub use Rattle.gh_mutator.specs.declared.new.NewStage.TheVariants.{Assist, Place, Search, Wait, Want}
pub use Rattle.gh_mutator.specs.declared.new.Wanted.{Wanted}
pub use Rattle.gh_mutator_heap.specs.Facts.{answered_at, CountsAlone, Does, FactsAt, for_whom, FoundNone, FullAt, is_locked_at, KnowsAt, KnowsNew, locked_new, NewFacts, rest, Searches}
pub use Rattle.gh_mutator_heap.specs.PollHeap.{give_locked_at, GiveStageFacts, KnowsAtAnyTime, leave_locked_at, LeaveStageFacts, poll_locked_at, PollStageFacts, waits_locked_at, WaitStageFacts}
pub use Rattle.gh_mutator_heap.specs.Runs.{DoesPoints}
pub use Rattle.gh_mutator_writes.specs.Writing.{CountsObject, IsWritten}
pub use Rattle.gh_phase.specs.Handshake.{Acts, Awake, Gone, is_stop, last_of, Lead, Leads, Party, Stage, StageGoes, stop_word, Stopped}
pub use Rattle.gh_phase.specs.Shakes.{IsAwake, IsCurrent, IsParked, last_phase}
pub use Rattle.gh_phase.specs.Views.{run_phase}
pub use Rattle.gh_phase.specs.declared.resume.ResumeStage.{ResumeStage}
pub use Rattle.gh_phase.specs.declared.view.RunPhase.{RunPhase}
pub use Rattle.gh_poll.specs.Handshake.{leaves_at, polls_at, waits_at}
pub use Rattle.gh_poll.specs.Leave.{Leaving}
pub use Rattle.gh_poll.specs.Local.{register_at}
pub use Rattle.gh_poll.specs.Poll.{Polling}
pub use Rattle.gh_poll.specs.declared.leave.LeaveStage.{LeaveStage}
pub use Rattle.gh_poll.specs.declared.poll.PollStage.{PollStage}
pub use Rattle.gh_poll.specs.declared.wait.WaitStage.{WaitStage}
pub use Rattle.gh_shade.specs.declared.shade.Shaded.{Shaded}
pub use Rattle.gh_stack.specs.Facts.{AreRegisters}
pub use Rattle.gh_state.specs.Moves.{CountsStay, Deed, pend_then}
pub use Rattle.gh_state.specs.Routines.{GoesOn, SweepKeeps}
pub use Rattle.gh_state.specs.Slots.{slot_row}
pub use Rattle.gh_sweep.specs.Counts.{AreWords}
pub use Rattle.gh_sweep.specs.Listing.{slot_bytes_of}
pub use Rattle.gh_sweep.specs.Running.{BeginsSweep, on_from, SweepsOn}
pub use Rattle.gh_sweep.specs.Shared.{InSpan}
pub use Rattle.gh_sweep.specs.declared.sweep.SweepEnd.{SweepEnd}
pub use Rattle.gh_sweep.specs.declared.sweep.SweepEnd.TheVariants.{Lost, Swept}
pub use Rattle.gh_sweep.specs.declared.sweep.SweepStage.{SweepStage}
pub use Rattle.gh_worker.specs.Globals.{claimed_by, global_done, WorkersCountGlobals}
pub use Rattle.gh_worker.specs.Places.{Finds, IsAtWork, Looks, Polls, RestsAtStop, WorkersKeepPlaces}
pub use Rattle.gh_worker.specs.Routine.{acknowledges, claims, hands_over, OwnStep, shades}
pub use Rattle.gh_worker.specs.declared.worker.WorkerStage.{WorkerStage}
