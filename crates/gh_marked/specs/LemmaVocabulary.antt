-- The names that the lemmas which stand in this folder share.
pub use Rattle.std.proofs.lemmas.Bool.{ltb-false}
pub use Rattle.std.proofs.lemmas.Bool.Decides.{nat_tests}
pub use Rattle.std.proofs.lemmas.Nat.{mod_below}
pub use Rattle.gh_base.specs.Cells.{buffers_of, Words}
pub use Rattle.gh_base.specs.Holding.{holder_in}
pub use Rattle.gh_base.specs.Packing.{bit, buffer_of}
pub use Rattle.gh_base.specs.Steps.{cell_of, ChangesOneCell, effect}
pub use Rattle.gh_base.specs.declared.cell.Ask.{Ask}
pub use Rattle.gh_base.specs.declared.cell.Cell.{Cell}
pub use Rattle.gh_base.specs.declared.layout.Layout.{Layout}
pub use Rattle.gh_base.specs.Lists.{by, Kind, Legal, started, state_of, words_after}
pub use Rattle.gh_base.specs.Rows.{alloc_words, birth_words}
unfoldable pub use Rattle.gh_base.specs.Rows.{row_bit}
pub use Rattle.gh_base.specs.declared.machine.Entry.{Entry}
pub use Rattle.gh_base.specs.declared.operation.Op.{Op}
pub use Rattle.gh_base.specs.declared.shape.Shape.{Shape}
pub use Rattle.gh_base.specs.declared.value.Name.{Name}
pub use Rattle.gh_model.specs.Ever.{Ever, Reach}
pub use Rattle.gh_heap.specs.Objects.{IsMade, Placed}
pub use Rattle.gh_heap.specs.Rights.{Arena, Good, IsOf, Shared as Heap, view}
pub use Rattle.gh_marks.specs.Colours.{Cycle, Shared as Marking}
pub use Rattle.gh_marks.specs.Good.{Good as MarkingGood}
pub use Rattle.gh_marks.specs.Laws.{MarkingBegins}
pub use Rattle.gh_marks.specs.Moves.{Went}
pub use Rattle.gh_phase.specs.Handshake.{Stopped}
pub use Rattle.gh_phase.specs.declared.view.RunPhase.{RunPhase}
pub use Rattle.gh_assist.specs.Listing.{Assisting}
pub use Rattle.gh_alloc.specs.Place.{Placing}
pub use Rattle.gh_alloc.specs.Search.{Seeking}
pub use Rattle.gh_alloc.specs.declared.sought.Found.{Found}
pub use Rattle.gh_mutator.specs.Deeds.{acted, answer_at, processor_kind}
pub use Rattle.gh_mutator.specs.Listing.{Act, acts, acts_at, after_gc, after_poll, begins_at, follows, is_busy_at, takes_at}
pub use Rattle.gh_mutator.specs.New.{after_assist}
pub use Rattle.gh_poll.specs.Poll.{Polling}
pub use Rattle.gh_mutator.specs.ProcessorPlaces.{ProcessorInHandshake}
pub use Rattle.gh_mutator.specs.Running.{IsSound}
pub use Rattle.gh_mutator.specs.declared.new.NewStage.{NewStage}
pub use Rattle.gh_mutator.specs.declared.new.Wanted.{Wanted}
pub use Rattle.gh_mutator.specs.Processing.{Processor}
pub use Rattle.gh_mutator.specs.declared.step.Then.{Then}
pub use Rattle.gh_mutator.specs.declared.task.Task.{Task}
pub use Rattle.gh_mutator_writes.specs.Calm.{IsCalm as MarksNothing}
pub use Rattle.gh_mutator_writes.specs.Writing.{ProcessorWritesItsOwn}
pub use Rattle.gh_mutator_heap.specs.PollHeap.{KnowsAtAnyTime}
pub use Rattle.gh_worker.specs.Listing.{Working}
pub use Rattle.gh_worker.specs.Writing.{WorkersWriteTheirOwn}
pub use Rattle.gh_coord.specs.Listing.{after_check, after_close, after_open, asks_at, at_stage, Coordinating, goes_at}
pub use Rattle.gh_coord.specs.declared.close.CloseStage.{CloseStage}
pub use Rattle.gh_coord.specs.declared.coord.CoordStage.{CoordStage}
pub use Rattle.gh_coord.specs.declared.coord.CoordStage.TheVariants.{Check, Close, Done, Open}
pub use Rattle.gh_coord.specs.declared.open.OpenStage.{OpenStage}
pub use Rattle.gh_coord.specs.declared.watch.WatchStage.{WatchStage}
pub use Rattle.gh_coord.specs.declared.watch.Watched.{Watched}
pub use Rattle.gh_coord.specs.declared.watch.Watched.TheVariants.{All, NotYet}
pub use Rattle.gh_lists.specs.Marking.{EndsClean, IsBeginning, IsChecked, IsInLimits}
pub use Rattle.gh_lists.specs.Handshake.{KeepsIt, StepKeepsIt, those}
pub use Rattle.gh_lists.specs.Lists.{arena, ever, IsLed, words}
pub use Rattle.gh_lists.specs.Numbers.{CountsCycles, IsFew}
pub use Rattle.gh_lists.specs.Order.{ended_in, ends}
pub use Rattle.gh_lists.specs.Processors.{all_ended, IsPlacedAt}
pub use Rattle.gh_marked.specs.Drawn.{IsDrawnSo, IsToBegin}
pub use Rattle.gh_marked.specs.State.{HasState, is_last_task, IsHeapOf, processor_at}
