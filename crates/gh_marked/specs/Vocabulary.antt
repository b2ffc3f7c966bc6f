-- The names that several files of specs/ share.
pub use Rattle.std.proofs.lemmas.Bool.Decides.{eqb_tells, nat_tests}
pub use Rattle.gh_base.specs.Cells.{buffers_of, seats_of, Words}
pub use Rattle.gh_base.specs.Lists.{by, Kind, Legal, started, state_of, words_after}
pub use Rattle.gh_base.specs.Packing.{buffer_of, page_of}
pub use Rattle.gh_base.specs.Rows.{alloc_words, mark_words, page_words, Row, RowsAreWritten}
unfoldable pub use Rattle.gh_base.specs.Rows.{row_bit}
pub use Rattle.gh_base.specs.Steps.{cell_of, ChangesOneCell, effect}
pub use Rattle.gh_base.specs.declared.cell.Ask.{Ask}
pub use Rattle.gh_base.specs.declared.cell.Cell.{Cell}
pub use Rattle.gh_base.specs.declared.layout.Layout.{Layout}
pub use Rattle.gh_base.specs.declared.limits.TheConstants.{MOST_STATEMENTS}
pub use Rattle.gh_base.specs.declared.pack.TheConstants.{END}
pub use Rattle.gh_base.specs.declared.shape.Shape.{Shape}
pub use Rattle.gh_base.specs.declared.value.Name.{Name}
pub use Rattle.gh_coord.specs.Listing.{after_check, after_close, after_open, asks_at, at_stage, Coordinating, goes_at, is_busy}
pub use Rattle.gh_coord.specs.Stopping.{acks_of}
pub use Rattle.gh_cycle.specs.Beside.{CyclesBeginBeside, IsBeside, MarkingAloneGoesBeside, ObjectsAreKnownBeside, TheMarkedStand, TheReachedAreMarkedBeside}
pub use Rattle.gh_cycle.specs.Reached.{BoundsLast, IsBounded, PlacesAreDecided, TheReachedWereMade}
pub use Rattle.gh_cycle.specs.Since.{CyclesBeginSo, HasGoneOn, TheMarkedWereReached, WhatHasGoneOnLasts}
pub use Rattle.gh_heap.specs.Moves.{GoroutineRuns, update}
pub use Rattle.gh_heap.specs.Rights.{Arena, Good as HeapGood, Right, Shared as Heap, view}
pub use Rattle.gh_lists.specs.Beginning.{both, ends-by}
pub use Rattle.gh_lists.specs.Counts.{CountsPlainly, stored_after, stored_in}
pub use Rattle.gh_lists.specs.Handshake.{actors, first_words, KeepsIt, Pacing, Setup, StepKeepsIt, those}
pub use Rattle.gh_lists.specs.LemmaVocabulary.{Entry, IsOf, Op, Processor, REGISTERS, View}
pub use Rattle.gh_lists.specs.Lists.{arena, BeginsCycle, ever, IsEnding, IsLed, words}
pub use Rattle.gh_lists.specs.Marking.{actors_after, EndsClean, IsBeginning, IsChecked, IsInLimits, IsLedBy, IsStartOf, IsStateOf, setting, setup_in}
pub use Rattle.gh_lists.specs.Numbers.{CountsCycles, IsFew}
pub use Rattle.gh_lists.specs.Order.{ended_in, ends, goroutine_is_over, goroutine_of, in_range}
pub use Rattle.gh_lists.specs.Processors.{all_ended, answers_of, arena_of, ever_after_list, given_of, is_of, IsPlacedAt, may_run}
pub use Rattle.gh_lists.specs.Wants.{CountsWants, total}
pub use Rattle.gh_lists.specs.declared.handshake.Actor.{Actor}
pub use Rattle.gh_lists.specs.declared.handshake.Actor.TheVariants.{Marks}
pub use Rattle.gh_marks.specs.Colours.{Black, Buffered, Claimed, Colour, Cycle, Pending, Placing, Progress, Read, Scanned, seen_global, Shared, Shared as Marking, Taken, Untouched, White}
pub use Rattle.gh_marks.specs.Ends.{Opens}
pub use Rattle.gh_marks.specs.Good.{Good, Good as MarkingGood}
pub use Rattle.gh_marks.specs.Knows.{KnowsObjects}
pub use Rattle.gh_marks.specs.Laws.{EachStepGoesByMoves, MarkingBegins, MarksStayWords}
pub use Rattle.gh_marks.specs.Moves.{ClaimGlobal, goes, IsQuietInMarking, May, Move, moved, ReadGlobal, SameExtent, ScanGlobal, stays, Steps, Went}
pub use Rattle.gh_marks.specs.Picture.{BeginsDrawn, CyclesBeginDrawn, EachStepIsDrawn, IsDrawn, many, MarkingEndsDrawn, ThePictureSays, WhatThePictureSays}
pub use Rattle.gh_marks.specs.Seats.{Hands, nothing}
pub use Rattle.gh_model.specs.Ever.{Ever, Reach}
pub use Rattle.gh_mutator.specs.Deeds.{acted, answer_at, deeds, OnlyPointsChange, processor_kind, ProcessorsDeedsFit}
pub use Rattle.gh_mutator.specs.Listing.{Act, acts, acts_at, after_gc, after_poll, begins_at, follows, is_busy_at, takes, takes_at}
pub use Rattle.gh_mutator.specs.New.{after_assist, sought_for}
pub use Rattle.gh_mutator.specs.ProcessorMarks.{MarkFacts, MarksByMoves}
pub use Rattle.gh_mutator.specs.Running.{IsSound}
pub use Rattle.gh_mutator.specs.declared.new.NewStage.{NewStage}
pub use Rattle.gh_mutator.specs.declared.task.Task.{Task}
pub use Rattle.gh_mutator_heap.specs.Facts.{MayBegin, ProcessorFacts, ShapesAreGood}
pub use Rattle.gh_mutator_writes.specs.Calm.{CalmProcessorsMarkNothing, IsCalm as MarksNothing, IsWrittenCalmly}
pub use Rattle.gh_mutator_writes.specs.Writing.{EndsStack, ProcessorWritesItsOwn, StacksAreNoted, TellsScan, WritesOf}
pub use Rattle.gh_state.specs.Routines.{SeatSweepsNothing, SweepRuns, SweepsByTheState}
pub use Rattle.gh_state.specs.Shared.{Shared as State, Told}
pub use Rattle.gh_sweep.specs.Listing.{Sweeping}
pub use Rattle.gh_tri.specs.Invariants.{Invariants, IsMarkingDone, IsOpeningPicture, Opens as OpeningsHold}
pub use Rattle.gh_tri.specs.Steps.{EachStepKeepsTheInvariants, Goes}
pub use Rattle.gh_tri.specs.Tricolour.{Tricolour}
pub use Rattle.gh_worker.specs.Listing.{asks, global_held, sweep_in, Working}
pub use Rattle.gh_worker.specs.Routine.{WorkersAreRoutines, WritesAlone}
