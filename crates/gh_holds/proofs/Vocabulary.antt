-- The names that several files of proofs/ share.
pub use Rattle.std.proofs.lemmas.Bool.Decides.{eqb_tells}
pub use Rattle.std.proofs.lemmas.Nat.Bits.{bit_at-lt, bit_at-zero, bit_at_and}
pub use Rattle.gh_base.specs.Footprints.{Footprint, FootprintsHold, row_of, Writes}
pub use Rattle.gh_base.specs.Orders.{before_step, left_at}
pub use Rattle.gh_base.specs.Packing.{birth_word}
pub use Rattle.gh_base.specs.Rows.{RowsAreWritten, with_word}
pub use Rattle.gh_base.specs.declared.limits.TheConstants.{MOST_GOROUTINES}
pub use Rattle.gh_coord.specs.Events.{by_event}
pub use Rattle.gh_coord.specs.Listing.{sweep_at}
pub use Rattle.gh_cycle.specs.Beside.{IsBeside, IsBeside as GoesTogether, IsBeside as IsTogether, MarksAlone}
pub use Rattle.gh_cycle.specs.Opening.{IsOpened, WordsAreAtRest}
pub use Rattle.gh_cycle.specs.Reached.{TheReachedWereMade}
pub use Rattle.gh_cycle.specs.Since.{HasGoneOn}
pub use Rattle.gh_heap.specs.Laws.{HeapIsApart, name_made}
pub use Rattle.gh_heap.specs.Moves.{IsAside as IsAsideCell, Others, Quiet}
pub use Rattle.gh_heap.specs.Objects.{InSlot, Place, reference_to}
pub use Rattle.gh_heap.specs.Spans.{Freeing, IsSlotOf, Laying}
pub use Rattle.gh_holds.specs.ActorsHold.{EndedSo, HasCleared, HasCursor, HasEnded, HasRead, Holds, HoldsAt, IsBegun, IsClosing, IsCounting, IsNewThere, IsOff, IsOpening, IsQuiet, IsRead, IsReady, IsSweeping, IsTold, NobodyMarks, page_at, Walks, WalksAt, WasSo}
pub use Rattle.gh_holds.specs.EveryList.{HoldsAfter, InCycles}
pub use Rattle.gh_holds.specs.Objects.{AllWereCounted, EndsAllMarked, EndsMarked, FreesTheUnreached, FreesWithinTwo, IsMarkedObject, LeavesTheReached, StandsSoFar, StandsThrough, StandsUntilItsEnd, WasCounted}
pub use Rattle.gh_holds.specs.Vocabulary.{alloc_at, alloc_words, Arena, arena, birth_words, Cell, Check, Close, CloseStage, Coordinating, CoordStage, Count, CycleEnd, Done, END, EndsClean, EndsCycle, Entry, Ever, ever, first_words, generation_of, Given, Good, HasState, Heap, in_all, IsEnding, IsHeapOf, IsInCycle, IsLed, IsMade, IsMarking, IsOf, IsPlacedAt, IsStartOf, IsTelling, IsUnderWay, Known, Legal, ListsKnown, live_at, LoadAck, LoadWant, mark_words, MarkOn, marks_at, Name, Op, Open, page_words, Placed, placed, Processor, processor_at, Reach, Setup, setup_for, size_for, Stop, StopAgain, Sweep, Tell, TellStage, those, view, Watch, Words, words}
unfoldable pub use Rattle.gh_holds.specs.Vocabulary.{row_bit}
pub use Rattle.gh_lists.specs.Counting.{rises}
pub use Rattle.gh_lists.specs.Going.{at_seat, goes_then, keeps_last, last_was, led_then, NotAcks}
pub use Rattle.gh_lists.specs.Handshake.{asks as asks_by, Sound as ActorSound}
pub use Rattle.gh_lists.specs.Lists.{BeginsCycle, SweepsCycle}
pub use Rattle.gh_lists.specs.Names.{few_there, placed_there, same_birth_same_name}
pub use Rattle.gh_lists.specs.Resting.{answers_stay, begins_nothing, ever_stays, given_stay, own_stay, rests, rests_on, run_is, runs_are, state_stays}
pub use Rattle.gh_lists.specs.Seats.{IsSeated, lead_started, leads, other, run_started, seated, works}
pub use Rattle.gh_lists.specs.Starts.{compared, legal_start, start_of_start, whole, whole as all_of}
pub use Rattle.gh_marked.proofs.OneStep.Beside.{not_beginning}
pub use Rattle.gh_marked.proofs.OneStep.Wanted.{Wanted}
pub use Rattle.gh_marked.proofs.Vocabulary.{acks_of, Act, acted, Actor, actors, actors_after, acts, ahead_at, Answer, answered, answered_by, AnsweredDeed, AreWords, Ask, asks, Awake, Begins, Begun, bit_at, by, cell_of, Checked, close_part, CountStage, Cycle, deeds, done_at, effect, ended_in, EverValue, generation_after, given_at, gives, GONE, Gone, Hands, is_busy, is_busy_at, is_last_task, IsAsItShould, IsBeginning, IsChecked, IsFullFor, IsKnown, IsParked, IsSound, IsStepIn, IsToBegin, KeepsIt, Kind, Knows, last_of, last_phase, Layout, Lead, Leads, Load, MarkFacts, Marking, MarkingGood, MarksNothing, MarksToTheEnd, may_of, MayBegin, Means, mod_below, moved, nat_tests, new_stage_at, nothing, opened_after, opened_in, OpenStage, option_to_list, PackedWordsAreReadBack, page_of, Part, part_of, Party, party_of, phase_of, place_of, point_of, Polling, processor_kind, put, reference_of, REGISTERS, Right, Row, seats_of, Shape, SoundAt, SoundPlace, SpanHead, Stage, stage_at, stage_of, StageGoes, started, state_of, Steps as HeapSteps, StepsByMoves, stop_word, Stopped, StopStage, Store, SweepAllStage, takes, Task, WaitsWithNone, WasMarked, Went}
pub use Rattle.gh_marked.specs.Checking.{begin_post, begins, CoordinatorGoes, goes_on, goes_so, leaves}
pub use Rattle.gh_marked.specs.Drawing.{drawn_first, drawn_then, DrawnKnown, is_drawn}
pub use Rattle.gh_marked.specs.Drawn.{CycleIsDrawn}
pub use Rattle.gh_marked.specs.HeapBytes.{uncounted}
pub use Rattle.gh_marked.specs.HoldVocabulary.{answers_of, CountsAreExact, given_of, head_word, IsAsItEnded, IsBounded, PassedBefore, SeatSweepsNothing, State, StateGood, SweepingAll, SweepRuns, tally_of}
pub use Rattle.gh_marked.specs.Marked.{IsInMarking, KnowsHeap}
pub use Rattle.gh_marked.specs.Scanned.{done_by, FewAreScanned, GlobalsAreCounted, most_scanned, scanned_by, scanned_in}
pub use Rattle.gh_marked.specs.StackWords.{TellsStacks}
pub use Rattle.gh_marked.specs.State.{began, began_words}
pub use Rattle.gh_marked.specs.Sweepers.{IsInSweep, sweep_of}
pub use Rattle.gh_marks.specs.Colours.{Black, Colour, HasMark, IsGrey, mark_of, Placing, Scanned, Untouched, White}
pub use Rattle.gh_marks.specs.Moves.{goes, stays, Steps}
pub use Rattle.gh_model.specs.Ever.{from_field, from_global, from_register, names, next_name, opening_ever}
pub use Rattle.gh_mutator.specs.Deeds.{meaning}
pub use Rattle.gh_mutator.specs.Processor.{opening_processor}
pub use Rattle.gh_mutator.specs.ProcessorMarks.{StandsWithNothing}
pub use Rattle.gh_mutator.specs.Sweeping.{sweep_in}
pub use Rattle.gh_mutator_heap.specs.Facts.{Does, FullAt}
pub use Rattle.gh_mutator_writes.specs.Calm.{FindsNoMarking}
pub use Rattle.gh_phase.specs.Handshake.{is_stop, run_word}
pub use Rattle.gh_phase.specs.declared.view.RunPhase.{RunPhase}
pub use Rattle.gh_state.specs.Cycles.{AllIsTold, AreSwept, cycle_ended, IsOver, next_words, opened, opening, Opens}
pub use Rattle.gh_state.specs.Routines.{GoesOn}
pub use Rattle.gh_sweep.specs.Facts.{FactsAt, HasNotNumber}
pub use Rattle.gh_sweep.specs.Listing.{Sweeping}
pub use Rattle.gh_sweep.specs.Running.{on_from}
pub use Rattle.gh_sweep.specs.declared.sweep.SweepStage.{SweepStage}
pub use Rattle.gh_worker.specs.Listing.{Working}
