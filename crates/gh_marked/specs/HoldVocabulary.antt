-- The names of what holds after every list of all actors, which its files share.
pub use Rattle.gh_base.specs.Cells.{Words}
pub use Rattle.gh_base.specs.Lists.{Legal, state_of}
pub use Rattle.gh_base.specs.Rows.{alloc_words, birth_words, mark_words}
pub use Rattle.gh_base.specs.declared.layout.Layout.{Layout}
pub use Rattle.gh_base.specs.declared.machine.Entry.{Entry}
pub use Rattle.gh_base.specs.declared.operation.Op.{Op}
pub use Rattle.gh_base.specs.declared.shape.Shape.{Shape}
pub use Rattle.gh_base.specs.declared.value.Answer.{Answer}
pub use Rattle.gh_base.specs.declared.value.Name.{Name}
pub use Rattle.gh_base.specs.Packing.{head_word, page_of, tally_of}
unfoldable pub use Rattle.gh_base.specs.Rows.{row_bit}
pub use Rattle.gh_base.specs.declared.pack.TallyWord.{TallyWord}
pub use Rattle.gh_model.specs.Ever.{Ever, Reach}
pub use Rattle.gh_heap.specs.Rights.{Arena, Good, IsOf, Right, Shared as Heap, view, View}
pub use Rattle.gh_heap.specs.Objects.{IsMade}
pub use Rattle.gh_marks.specs.Colours.{Cycle, Shared as Marking}
pub use Rattle.gh_sweep.specs.Counts.{AreWords}
pub use Rattle.gh_sweep.specs.Shared.{alloc_at, CycleEnd, generation_of, marks_at}
pub use Rattle.gh_state.specs.Good.{Good as StateGood}
pub use Rattle.gh_state.specs.Shared.{Shared as State, Told}
pub use Rattle.gh_state.specs.Cycles.{CountsAreExact, IsAsItEnded}
pub use Rattle.gh_state.specs.Routines.{SeatSweepsNothing, SweepRuns}
pub use Rattle.gh_state.specs.Walkers.{PassedBefore}
pub use Rattle.gh_cycle.specs.Beside.{IsBeside}
pub use Rattle.gh_cycle.specs.Reached.{IsBounded}
pub use Rattle.gh_cycle.specs.Since.{HasGoneOn}
pub use Rattle.gh_mutator.specs.Deeds.{deeds, processor_kind}
pub use Rattle.gh_mutator.specs.ProcessorMarks.{MarkFacts}
pub use Rattle.gh_mutator.specs.Running.{IsSound}
pub use Rattle.gh_mutator.specs.Processing.{Processor}
pub use Rattle.gh_mutator.specs.declared.task.Task.{Task}
pub use Rattle.gh_mutator.specs.declared.new.NewStage.{NewStage}
pub use Rattle.gh_mutator_writes.specs.Calm.{IsCalm as MarksNothing}
pub use Rattle.gh_mutator_heap.specs.Facts.{ProcessorFacts}
pub use Rattle.gh_coord.specs.Listing.{Coordinating}
pub use Rattle.gh_coord.specs.Stopping.{acks_of}
pub use Rattle.gh_coord.specs.SweepingAll.{SweepingAll}
pub use Rattle.gh_coord.specs.declared.coord.CoordStage.{CoordStage}
pub use Rattle.gh_lists.specs.Handshake.{Pacing}
pub use Rattle.gh_lists.specs.Lists.{arena, BeginsCycle, EndsCycle, ever, IsLed, words}
pub use Rattle.gh_lists.specs.Marking.{actors_after, IsBeginning, IsStartOf}
pub use Rattle.gh_lists.specs.Order.{ended_in}
pub use Rattle.gh_lists.specs.Processors.{answers_of, FullOnlyThere, given_of, IsPlacedAt}
pub use Rattle.gh_marked.specs.Drawn.{IsDrawnSo, IsToBegin}
