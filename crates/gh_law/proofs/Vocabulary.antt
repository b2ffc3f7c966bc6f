-- The names that several files of proofs/ share.
pub use Rattle.std.proofs.lemmas.Bool.{cases_lt}
pub use Rattle.std.proofs.lemmas.Bool.Decides.{eqb_tells, nat_tests}
pub use Rattle.std.proofs.lemmas.Nat.Bits.{bit_at-zero, same_from_bits_below}
pub use Rattle.std.specs.Int.{bit_at}
pub use Rattle.std.specs.Option.{option_to_list}
pub use Rattle.gh_alloc.specs.Place.{Placing}
pub use Rattle.gh_alloc.specs.Search.{Seeking}
pub use Rattle.gh_base.specs.Holding.{Buffers, HoldsBuffer}
pub use Rattle.gh_base.specs.Lists.{Kind}
pub use Rattle.gh_base.specs.Orders.{DeedsFit, done_at}
pub use Rattle.gh_base.specs.Packing.{bit, page_of}
pub use Rattle.gh_base.specs.Rows.{alloc_words, mark_words, page_words, Row}
unfoldable pub use Rattle.gh_base.specs.Rows.{row_bit}
pub use Rattle.gh_base.specs.Steps.{cell_of, effect}
pub use Rattle.gh_base.specs.declared.cell.Ask.TheVariants.{Add, And, Load, Swap}
pub use Rattle.gh_base.specs.declared.held.Held.{Held}
pub use Rattle.gh_base.specs.declared.pack.PageWord.{PageWord}
pub use Rattle.gh_base.specs.declared.pack.PageWord.TheVariants.{Head}
pub use Rattle.gh_base.specs.declared.pack.SpanHead.{SpanHead}
pub use Rattle.gh_base.specs.declared.shape.Shape.{Shape}
pub use Rattle.gh_base.specs.declared.value.Answer.{Answer}
pub use Rattle.gh_class.specs.Classes.{IsSizeClass, pages_of, slot_of, slots_of, span_index}
pub use Rattle.gh_class.specs.declared.class.SizeClass.{SizeClass}
pub use Rattle.gh_coord.specs.Listing.{after_open, asks_at, at_stage, goes_at, is_busy}
pub use Rattle.gh_coord.specs.declared.close.CloseStage.{CloseStage}
pub use Rattle.gh_coord.specs.declared.coord.CoordStage.{CoordStage}
pub use Rattle.gh_coord.specs.declared.coord.CoordStage.TheVariants.{Check, Close, Count, LoadAck, LoadWant, MarkOn, Stop, StopAgain, Sweep, Tell, Watch}
pub use Rattle.gh_coord.specs.declared.tell.TellStage.{TellStage}
pub use Rattle.gh_credit.specs.Drawing.{drawn_by, LeavesOrDraws}
pub use Rattle.gh_credit.specs.Earning.{handed_by}
pub use Rattle.gh_heap.specs.Objects.{IsMade}
pub use Rattle.gh_heap.specs.Rights.{Arena, Frees, Good, IsKept, Shared as Heap, View, view}
pub use Rattle.gh_heap.specs.Spans.{FitsClass, is_own_class, IsSlotOf, number_of_class, owner_in, slot_count, slot_size}
pub use Rattle.gh_holds.specs.ActorsHold.{Holds, HoldsAt, IsClosing, IsQuiet, IsTelling, NobodyMarks}
pub use Rattle.gh_holds.specs.Below.{done_by, HasState, HeapIsCounted, IsAsItShould, IsInSweep, IsMarking, IsUnderWay, Known, ListsKnown, most_scanned, OwnersAreProcessors, OwnsOneOfEach, processor_at, SpansStand, sweep_of, uncounted_at, untaken, untaken_at}
pub use Rattle.gh_holds.specs.EveryList.{HoldsAfter, InCycles}
pub use Rattle.gh_holds.specs.Standing.{named, once, stand_apart, stands_for}
pub use Rattle.gh_law.specs.Actors.{AllStands, AllWereOpened, AwaitedCycle, Awaits, HasAwaited, StepsWithin, SweptSince}
pub use Rattle.gh_law.specs.Asked.{AllWereAsked, AsksForCycle, IsClearing, NoneOpensSince, OpensCycle, SawTriggerReached, WasAsked, WasOpened}
pub use Rattle.gh_law.specs.Credit.{at, CreditStands, earned_in, IsSettled, lapsed_by, lapsed_in, left_among, left_at, spent_among, spent_at, spent_in}
pub use Rattle.gh_law.specs.Phases.{EndsInOrder, FindsTheStop, IsMarkingStep, IsStopped, MarksInPhase, PhasesAreKnown, PhasesStand, StandsEmpty, StandsStill}
pub use Rattle.gh_law.specs.Room.{AnotherSteps, FindsItGone, FindsNoRoom, IsEntryOf, LoadsBuffer, LosesBuffer, PassesAll, RoomStands, StandsSince}
pub use Rattle.gh_law.specs.Scans.{ScansIn, ScansOnce}
pub use Rattle.gh_law.specs.Searches.{EndsWithoutRoom, HasNoRoom, NoneMeansNoRoom}
pub use Rattle.gh_law.specs.SweepMarks.{CachedAreSwept, EachSpanIsSwept, HoldsItsOwn, IsOwnSpan, IsRunning, IsUncut, MarksAreLeft, OwnedAreSwept, SaysHowFar, SpansAreNumbered, SweepsStand}
pub use Rattle.gh_law.specs.Vocabulary.{acks_of, Actor, actors, actors_after, answers_of, Ask, before_step, Begins, begun_in, by, Cell, Coordinating, Done, Entry, Ever, first_words, Given, given_of, InRange, IsBeginning, IsInLimits, IsLed, IsPlacedAt, IsStartOf, Layout, Legal, ListStands, Name, only_polls, Op, Open, Or, own, place_of, Processor, Reach, scanned_in, seats_of, Setup, setup_for, ShapesAreGood, started, state_of, Store, those, total, Words, words}
pub use Rattle.gh_lists.specs.Changes.{begins, Change, ends, Rises, same, tells}
pub use Rattle.gh_lists.specs.Going.{ClosingIsBusy, goes_then, led_then}
pub use Rattle.gh_lists.specs.Handshake.{actor_takes, KeepsIt, start}
pub use Rattle.gh_lists.specs.Leaving.{marks_or_not}
pub use Rattle.gh_lists.specs.Lists.{arena, BeginsCycle, ever, IsStepIn}
pub use Rattle.gh_lists.specs.Numbers.{ahead_at, asked_after, asks_for_one, opened_after, opens_one}
pub use Rattle.gh_lists.specs.Processors.{AnswersAsEver}
pub use Rattle.gh_lists.specs.Resting.{run_is, runs_are}
pub use Rattle.gh_lists.specs.Seats.{IsSeated, lead_started, other, run_started, seated, worker_started}
pub use Rattle.gh_lists.specs.Starts.{compared, legal_start, start_of_start, whole}
pub use Rattle.gh_lists.specs.SumsBelow.{sum_more, sum_none, sum_same}
pub use Rattle.gh_lists.specs.Sweeping.{asks_by_sweep, idle_sweeps_none}
pub use Rattle.gh_lists.specs.Wants.{AreFew, CountsWants, IsToOpen}
pub use Rattle.gh_lists.specs.Writing.{awake_at, knows_at, leaves_numbers}
pub use Rattle.gh_marked.specs.Tied.{TiesShowWhatThereIs}
pub use Rattle.gh_marks.specs.Colours.{Buffered, buffers_as_held, Colour, Cycle, IsShaded, Shared as Marking}
pub use Rattle.gh_model.specs.Ever.{answer_of, answer_of_value, ever_after, is_number, load_answer, names, next_name, opening_ever, sets_global, store_answer, stores_value, takes_answer, with_end, with_object, with_register}
pub use Rattle.gh_mutator.specs.Deeds.{acted, deeds, has_point, processor_kind}
pub use Rattle.gh_mutator.specs.Listing.{Act, acting, acts, acts_at, after_gc, after_leave, after_poll, asks, begins_at, follows, gives_at, is_busy_at, once_ended, op_at, takes, takes_at}
pub use Rattle.gh_mutator.specs.New.{after_assist, after_place, after_search, after_wait, own_span}
pub use Rattle.gh_mutator.specs.Processor.{cache_span, cached_for, made_by, register_of}
pub use Rattle.gh_mutator.specs.ProcessorMarks.{GlobalFacts, MarkFacts, StoreFacts, TaskFacts}
pub use Rattle.gh_mutator.specs.ProcessorPlaces.{party_at, party_of, SoundPlace, stage_at, stage_of}
pub use Rattle.gh_mutator.specs.Running.{IsAssisting}
pub use Rattle.gh_mutator.specs.declared.global.GlobalStage.{GlobalStage}
pub use Rattle.gh_mutator.specs.declared.new.NewStage.{NewStage}
pub use Rattle.gh_mutator.specs.declared.new.Wanted.{Wanted}
pub use Rattle.gh_mutator.specs.declared.task.Task.{Task}
pub use Rattle.gh_mutator_heap.specs.Facts.{FactsAt, held_at, held_new, KnowsAt, KnowsNew, Makes, MayBegin, NewFacts, ProcessorFacts, rest, Searches}
pub use Rattle.gh_mutator_heap.specs.PollHeap.{CachesAll, CachesFrom, give_held_at, GiveStageFacts, KnowsSpans, leave_held_at, LeaveStageFacts, lists, no_page, poll_held_at, PollFacts, PollStageFacts, Rests, SeatFacts, WaitFacts, waits_held, waits_held_at, WaitStageFacts}
pub use Rattle.gh_mutator_writes.specs.Writing.{BeginsToWait, EndsStack, IsWanting, IsWritten, ProcessorWritesItsOwn, StaysThere, TellsScan, WritesOf}
pub use Rattle.gh_phase.specs.Handshake.{Party, Resumes, Stopped}
pub use Rattle.gh_phase.specs.Shakes.{IsAwake, last_phase}
pub use Rattle.gh_phase.specs.declared.resume.ResumeStage.{ResumeStage}
pub use Rattle.gh_phase.specs.declared.view.RunPhase.{RunPhase}
pub use Rattle.gh_phase.specs.declared.view.RunPhase.TheVariants.{Finished, Mark}
pub use Rattle.gh_poll.specs.Local.{cache_with, cached_in, is_mark}
pub use Rattle.gh_poll.specs.Poll.{Polling}
pub use Rattle.gh_poll.specs.declared.leave.LeaveStage.{LeaveStage}
pub use Rattle.gh_poll.specs.declared.wait.WaitStage.{WaitStage}
pub use Rattle.gh_room.specs.Room.{AreDistinct, AreOfSeats, BuffersHaveRoom, HasRoom}
pub use Rattle.gh_state.specs.Shared.{marks_in, seen_by_sweep, Shared as State, sweep_over, Told}
pub use Rattle.gh_state.specs.Slots.{slot_row, SlotsAreRead}
pub use Rattle.gh_sweep.specs.Bits.{sum_below}
pub use Rattle.gh_sweep.specs.Counts.{count_below, is_set}
pub use Rattle.gh_sweep.specs.Listing.{slot_bytes, slot_bytes_of, Sweeping}
pub use Rattle.gh_sweep.specs.Shared.{CycleEnd, Due, Far, generation_of as generation_at, InSpan, IsNumbered, marks_at, owed, placed, placed_in, SaysFar, Unswept}
pub use Rattle.gh_sweep.specs.declared.sweep.SweepStage.{SweepStage}
pub use Rattle.gh_worker.specs.Listing.{Working}
pub use Rattle.gh_worker.specs.Writing.{AcksAlone, CalmWorkersMarkNothing, IsCalm, WorkersWriteTheirOwn, WritesItsOwn}
