-- The names that several files of proofs/ share.
pub use Rattle.std.proofs.Math.ListN.{set}
pub use Rattle.std.proofs.Math.Nat.{mod-eq_of_lt, mod-lt}
pub use Rattle.std.proofs.lemmas.Bool.{eqb-false}
pub use Rattle.std.specs.Int.{bit_at}
pub use Rattle.gh_alloc.specs.Find.{given_head, span_at}
pub use Rattle.gh_alloc.specs.FindFacts.{cached_head}
pub use Rattle.gh_alloc.specs.FindSound.{IsSought}
pub use Rattle.gh_alloc.specs.Place.{Placing}
pub use Rattle.gh_alloc.specs.SearchFacts.{SeeksByItsRights, SweepsHere}
pub use Rattle.gh_alloc.specs.declared.find.FindStage.{FindStage}
pub use Rattle.gh_alloc.specs.declared.search.SearchStage.{SearchStage}
pub use Rattle.gh_assist.specs.Facts.{AssistsByMoves, StageFacts}
pub use Rattle.gh_assist.specs.Within.{AssistsAreWithin, AssistWithin}
pub use Rattle.gh_barrier.specs.Facts.{Facts, IsCell, IsKnownPointer, WritesByMoves}
pub use Rattle.gh_barrier.specs.Listing.{Writing, Writing as PointerWrite}
pub use Rattle.gh_barrier.specs.Sound.{FitsPointer, HasTwo}
pub use Rattle.gh_barrier.specs.declared.pointer_cell.PointerCell.{PointerCell}
pub use Rattle.gh_barrier.specs.declared.write_pointer.WriteStage.{WriteStage}
pub use Rattle.gh_base.specs.Cells.{buffers_of, put, Words}
pub use Rattle.gh_base.specs.Holding.{FitsBuffers}
pub use Rattle.gh_base.specs.Packing.{birth_word, bit, head_word, name_of, PackedWordsAreReadBack, page_class, page_of, page_pages, phase_of, slot_for, slot_in}
pub use Rattle.gh_base.specs.Reading.{read_after_set, read_replicate, set_twice}
pub use Rattle.gh_base.specs.Rows.{Row, row_bit, RowsAreWritten}
pub use Rattle.gh_base.specs.Shapes.{bits_at, FitsShape, is_pointer, no_shape}
pub use Rattle.gh_base.specs.declared.cell.Ask.{Ask}
pub use Rattle.gh_base.specs.declared.cell.Ask.TheVariants.{Or}
pub use Rattle.gh_base.specs.declared.cell.Cell.{Cell}
pub use Rattle.gh_base.specs.declared.held.Held.{Held}
pub use Rattle.gh_base.specs.declared.pack.PageWord.{PageWord}
pub use Rattle.gh_base.specs.declared.pack.SpanHead.{SpanHead}
pub use Rattle.gh_base.specs.declared.pack.TheConstants.{END, ENTRIES, GONE}
pub use Rattle.gh_base.specs.declared.value.Fault.{Fault}
pub use Rattle.gh_bitmap.specs.Stepping.{FitsSlot}
pub use Rattle.gh_central.specs.Sweeping.{SweepLeaves}
pub use Rattle.gh_class.specs.Classes.{IsSizeClass, pages_of, size_class_of, slot_of, slot_words_of}
pub use Rattle.gh_class.specs.declared.class.TheConstants.{SPAN_CLASSES}
pub use Rattle.gh_cycle.specs.Beside.{ClaimedFieldsAreAside, ClaimsSlot, FillsNone, IsBeside, IsKnownObject, MarkingAloneGoesBeside, ObjectsAreKnownBeside, SlotsAreReserved}
pub use Rattle.gh_cycle.specs.Deeds.{Deed, DeedsGoBeside, Ends, ever_by, from_field, from_global, from_nil, from_number, from_register, hand_behind, MeetsByDeed, Puts, PutsGlobal, Sets, StepsBeside}
pub use Rattle.gh_heap.specs.Laws.{AllAreSwept, EachMoveKeepsItsOwn, EachRightFollows, KeepsItsOwn, TheHeapIsApart}
pub use Rattle.gh_heap.specs.Moves.{Disown, IsQuiet, IsReached, IsReady, KeepsTaken, landing, Lands, LeaveLock, May, MayMake, MayWrite, Move, moved, placed_at, Quiet, Refuse, TakeLock, Takes, Write, WriteGlobal}
pub use Rattle.gh_heap.specs.Objects.{Holds, InSlot, Place, Place as PlaceOf, Placed}
pub use Rattle.gh_heap.specs.Rights.{Claims, Good as HeapGood}
pub use Rattle.gh_heap.specs.Spans.{FitsClass, Freeing, is_own_class, IsFull, Laying, number_of_class, owned_by, owner_at, owner_in, slot_count, slot_size}
pub use Rattle.gh_marks.specs.Colours.{IsClean, IsPointer, IsSince, Placing as PlacingBy, seen_word, Shared as Marking}
pub use Rattle.gh_marks.specs.Moves.{BehindBarrier, IsQuietInMarking}
pub use Rattle.gh_model.specs.Ever.{answer_of, answer_of_value, ever_after, field_count, load_answer, names, next_name, Reach, same_name, sets_global, store_answer, stores_value, takes_answer, with_end, with_field, with_global, with_object, with_register, with_register as ever_with}
pub use Rattle.gh_model.specs.declared.EverValue.{EverValue}
pub use Rattle.gh_mutator.specs.Deeds.{has_point}
pub use Rattle.gh_mutator.specs.Fields.{field_cell, has_field, is_pointer_by, kinds_differ, takes as takes_value, value_of, value_told, word_of_value}
pub use Rattle.gh_mutator.specs.Global.{after_write, at_stage, held_behind, naming, step}
pub use Rattle.gh_mutator.specs.Listing.{acting, after_gc, after_leave, after_poll, applied, asks_at, follows, once_ended, takes_at}
pub use Rattle.gh_mutator.specs.Load.{op_of}
pub use Rattle.gh_mutator.specs.MarkVocabulary.{Cycle, Hands, InHand, Keeps, nothing}
pub use Rattle.gh_mutator.specs.New.{after_assist, after_search, after_wait, answer_assist, answer_made, answer_search, assisting, assists, is_made, made_object, made_task, makes, own_span, placing, refuses_behind_wait, searches, seeking, sought_by, sought_for, waits, wanted_of, wants}
pub use Rattle.gh_mutator.specs.Processor.{at_poll, at_task, cache_span, keeping, register_of, set_register}
pub use Rattle.gh_mutator.specs.ProcessorMarks.{IsWriting, MarkFacts, MarksByMoves, only_polls, reserved_at, TaskFacts}
pub use Rattle.gh_mutator.specs.Stays.{search_wants, seeks_now}
pub use Rattle.gh_mutator.specs.Step.{answered, ends, goes_on}
pub use Rattle.gh_mutator.specs.Store.{pointer_cell_at, stores}
pub use Rattle.gh_mutator.specs.Sweeping.{IsSearching, sweep_at, SweepsAreRunOn}
pub use Rattle.gh_mutator.specs.Vocabulary.{Assisting, At, CachedSpan, Finding, Found, Large, Name, NoRoom, PlaceStage, Seeking, shape_at, SizeClass, slot_words, slots_of, Sought, span_index, Value}
pub use Rattle.gh_mutator.specs.Wanting.{WhatIsWantedFits}
pub use Rattle.gh_mutator.specs.declared.global.Global.{Global}
pub use Rattle.gh_mutator.specs.declared.global.GlobalStage.{GlobalStage}
pub use Rattle.gh_mutator.specs.declared.load.Load.{Load}
pub use Rattle.gh_mutator.specs.declared.load.LoadStage.{LoadStage}
pub use Rattle.gh_mutator.specs.declared.load.LoadStage.TheVariants.{Birth, Bits, Field, NilBase, Page}
pub use Rattle.gh_mutator.specs.declared.new.NewStage.{NewStage}
pub use Rattle.gh_mutator.specs.declared.new.NewStage.TheVariants.{Assist, Search, Wait, Want}
pub use Rattle.gh_mutator.specs.declared.new.Wanted.{Wanted}
pub use Rattle.gh_mutator.specs.declared.register.Register.{Register}
pub use Rattle.gh_mutator.specs.declared.register.Source.{Source}
pub use Rattle.gh_mutator.specs.declared.step.Step.{Step}
pub use Rattle.gh_mutator.specs.declared.store.Store.{Store}
pub use Rattle.gh_mutator.specs.declared.store.StoreStage.{StoreStage}
pub use Rattle.gh_mutator.specs.declared.task.Task.TheVariants.{Idle}
pub use Rattle.gh_mutator_heap.specs.Beside.{BeginsBesideMarking, GoesOnBesideMarking, KnowsMarking, StepsOn, Together}
pub use Rattle.gh_mutator_heap.specs.Facts.{answered_at, CountsAlone, Does, FactsAt, for_whom, FoundNone, freeing_new, FullAt, GlobalFacts, HasAt, held_new, IsPlain, KnowsAt, KnowsCounts, KnowsNew, Lasts, laying_new, LoadFacts, Loads, locked_new, Makes, MayBegin, NamedFrom, NewFacts, OwnStepAt, ProcessorFacts, RegisterFacts, rest, Searches, ShapesAreGood, StoreFacts, Stores, Through, Wants}
pub use Rattle.gh_mutator_heap.specs.PollHeap.{CachesAll, CachesFrom, give_held, give_held_at, give_locked, give_locked_at, GiveFacts, GivesSpan, GiveStageFacts, Has, HasLoaded, KeepsGhosts, KnowsAtAnyTime, KnowsSpans, leave_held_at, leave_locked_at, LeaveStageFacts, lists, no_page, poll_held_at, poll_locked_at, PollFacts, PollRegistersFit, Rests, ResumeFacts, SeatFacts, waits_held_at, waits_locked_at}
pub use Rattle.gh_mutator_heap.specs.PollHeapLaws.{IsBetweenOperations, LeavesByRights, Polls, PollsByRights, TakesLeave, Waits, WaitsByRights}
pub use Rattle.gh_mutator_heap.specs.PollWithin.{MarkStackStageWithin, ScansWithin}
pub use Rattle.gh_mutator_heap.specs.Runs.{Begins, DoesPoints, Opens, OwnStep, Parked, RunsByItsRights, StandsAlways, Stopped, SweepStep, Within}
pub use Rattle.gh_mutator_heap.specs.Vocabulary.{Act, acted, acts, Answer, Arena, asks, begins, cache_with, cached_for, cached_in, cell_of, effect, Ever, fits, given_at, gives, Good, GoroutineRuns, Heap, InRange, is_busy_at, is_number, IsCached, IsHeld, IsMade, IsOf, IsParked, KeepsObjects, Layout, Leaving, leaving, Means, MOST_GOROUTINES, MOST_STATEMENTS, Op, opening_ever, option_to_list, Others, point_of, points, Polling, Processor, register_at, REGISTERS, Right, Rights, seats_of, Shape, Shared, size_for, Small, SoundGiveStage, SoundRoomFinding, SpanClass, Steps, sweep_in, Sweeping, takes, Task, View, view, Waiting, waiting, with_nothing, with_span}
pub use Rattle.gh_phase.specs.declared.view.RunPhase.{RunPhase}
pub use Rattle.gh_phase.specs.declared.view.RunPhase.TheVariants.{Mark}
pub use Rattle.gh_poll.specs.Barrier.{has_entries, held_then, pointer_of, WritesIt, written}
pub use Rattle.gh_poll.specs.Collecting.{Resumed}
pub use Rattle.gh_poll.specs.Give.{first_cached, Giving, giving_buffer, goes, goes_at, head_store, none_cached, opening, span_class, stage_from}
pub use Rattle.gh_poll.specs.Handshake.{leaves_at, poll_stage_of, waits_at}
pub use Rattle.gh_poll.specs.Leave.{is_busy, stage_of}
pub use Rattle.gh_poll.specs.Local.{is_mark, marking_at, register_in_stacks, stacks_with, with_cached, with_ended, with_payment, with_register_value, with_value_if_any}
pub use Rattle.gh_poll.specs.MarkFacts.{holding_only, IsBetween, KnowsNumber, KnowsStacks, PollStageFacts, stacks_last, WaitStageFacts}
pub use Rattle.gh_poll.specs.Registers.{is_number_value}
pub use Rattle.gh_poll.specs.Wait.{polling}
pub use Rattle.gh_poll.specs.declared.poll.PollStage.{PollStage}
pub use Rattle.gh_poll.specs.declared.wait.Wait.{Wait as WaitState}
pub use Rattle.gh_poll.specs.declared.wait.WaitStage.{WaitStage}
pub use Rattle.gh_shade.specs.declared.shade.Shaded.{Shaded}
pub use Rattle.gh_stack.specs.Facts.{AreRegisters, named}
pub use Rattle.gh_wbuf.specs.Sound.{IsTryOf, SoundRoomStage}
