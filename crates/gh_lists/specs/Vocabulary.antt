-- The names that several files of specs/ share.
pub use Rattle.std.proofs.lemmas.Bool.Decides.{nat_tests}
pub use Rattle.std.specs.Option.{option_to_list}
pub use Rattle.gh_base.specs.Cells.{opening_words, same_cell, seats_of, Words}
pub use Rattle.gh_base.specs.Lists.{Begins, by, Kind, Legal, Setting, started, state_of, words_after}
pub use Rattle.gh_base.specs.Orders.{answered_by, AnsweredDeed, before_step, done_at, given_by, model_after}
pub use Rattle.gh_base.specs.Packing.{birth_word, bit, page_of, phase_of, phase_word}
pub use Rattle.gh_base.specs.Rows.{alloc_words, birth_words, bitmap_words, field_words, global_words, mark_words, page_words}
unfoldable pub use Rattle.gh_base.specs.Rows.{row_bit}
pub use Rattle.gh_base.specs.Steps.{cell_of, effect}
pub use Rattle.gh_base.specs.declared.cell.Ask.{Ask}
pub use Rattle.gh_base.specs.declared.cell.Ask.TheVariants.{Add, And, Load, Or, Store, Swap}
pub use Rattle.gh_base.specs.declared.cell.Cell.{Cell}
pub use Rattle.gh_base.specs.declared.layout.Layout.{Layout}
pub use Rattle.gh_base.specs.declared.limits.TheConstants.{MOST_STATEMENTS, REGISTERS}
pub use Rattle.gh_base.specs.declared.machine.Entry.{Entry}
pub use Rattle.gh_base.specs.declared.operation.Op.{Op}
pub use Rattle.gh_base.specs.declared.pack.TheConstants.{END, GONE}
pub use Rattle.gh_base.specs.declared.shape.Shape.{Shape}
pub use Rattle.gh_base.specs.declared.value.Answer.{Answer}
pub use Rattle.gh_base.specs.declared.value.Name.{Name}
pub use Rattle.gh_coord.specs.Handshake.{Marks, post_at, SoundAt}
pub use Rattle.gh_coord.specs.Keeping.{Kept, kept_with_cycle}
pub use Rattle.gh_coord.specs.Listing.{asks_at, Coordinating, counted, cycle_of, goes, goes_at, is_busy, next_generation}
pub use Rattle.gh_coord.specs.Parts.{Begun, Checked, Counted, Ended, Numbered, Opened, Outside, Part, part_of}
pub use Rattle.gh_coord.specs.Stopping.{acks_of}
pub use Rattle.gh_coord.specs.declared.coord.CoordStage.{CoordStage}
pub use Rattle.gh_coord.specs.declared.coord.CoordStage.TheVariants.{Close, LoadAck, LoadWant, Open, Stop, Tell}
pub use Rattle.gh_coord.specs.declared.cycles.Cycle.{Cycle}
pub use Rattle.gh_coord.specs.declared.open.OpenStage.TheVariants.{ClearWant, StorePhase}
pub use Rattle.gh_coord.specs.declared.tell.TellStage.TheVariants.{StoreSwept, StoreTrigger}
pub use Rattle.gh_heap.specs.Objects.{GlobalsGood, Holds, InSlot, IsMade, Means, Place, Placed, size_for}
pub use Rattle.gh_heap.specs.Rights.{Arena, Good, IsOf}
pub use Rattle.gh_lists.specs.declared.handshake.Actor.{Actor}
pub use Rattle.gh_model.specs.Ever.{Ever, ever_after, opening_ever, Reach}
pub use Rattle.gh_mutator.specs.Deeds.{acted, answer_at, deeds, meaning, OnlyPointsChange, processor_kind}
pub use Rattle.gh_mutator.specs.Listing.{Act, acting, acts, asks, gives, is_busy_at, op_at, takes}
pub use Rattle.gh_mutator.specs.Processing.{Processor}
pub use Rattle.gh_mutator.specs.Processor.{opening_processor, register_of}
pub use Rattle.gh_mutator.specs.ProcessorPlaces.{party_at, party_of, ProcessorInHandshake, stage_of}
pub use Rattle.gh_mutator.specs.Running.{IsSound}
pub use Rattle.gh_mutator.specs.Sound.{has_names, has_room}
pub use Rattle.gh_mutator.specs.declared.task.Task.{Task}
pub use Rattle.gh_mutator_writes.specs.Writing.{IsWritten, ProcessorWritesItsOwn, WritesOf}
pub use Rattle.gh_phase.specs.Handshake.{Acts, HandshakePlace, Leads, Party, phase_while, run_word, Stage, StageGoes, stop_word, Stopped}
pub use Rattle.gh_phase.specs.Shakes.{FinishedStays, GoneStay, IsAwake, IsCurrent, IsParked, last_phase, NobodyMoves, Shakes}
pub use Rattle.gh_phase.specs.declared.view.RunPhase.{RunPhase}
pub use Rattle.gh_worker.specs.Writing.{IsCalm, WorkersWriteTheirOwn}
