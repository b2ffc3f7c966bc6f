-- The names that the lemmas which stand in this folder share.
pub use Rattle.std.proofs.lemmas.Bool.Decides.{nat_tests}
pub use Rattle.std.specs.Prelude.{nat_lt}
pub use Rattle.gh_base.specs.Cells.{put, Words}
pub use Rattle.gh_base.specs.Lists.{Begins, Kind, Legal, started, state_of}
pub use Rattle.gh_base.specs.Packing.{phase_of, phase_word}
unfoldable pub use Rattle.gh_base.specs.Rows.{row_bit}
pub use Rattle.gh_base.specs.Steps.{effect}
pub use Rattle.gh_base.specs.declared.cell.Ask.{Ask}
pub use Rattle.gh_base.specs.declared.cell.Ask.TheVariants.{Add, And, Load, Or, Store, Swap}
pub use Rattle.gh_base.specs.declared.cell.Cell.{Cell}
pub use Rattle.gh_base.specs.declared.layout.Layout.{Layout}
pub use Rattle.gh_base.specs.declared.limits.TheConstants.{REGISTERS}
pub use Rattle.gh_base.specs.declared.machine.Entry.{Entry}
pub use Rattle.gh_base.specs.declared.operation.Op.{Op}
pub use Rattle.gh_base.specs.declared.pack.PhaseWord.{PhaseWord}
pub use Rattle.gh_base.specs.declared.pack.TheConstants.{END, GONE}
pub use Rattle.gh_base.specs.declared.shape.Shape.{Shape}
pub use Rattle.gh_base.specs.declared.value.Answer.{Answer}
pub use Rattle.gh_base.specs.declared.value.Name.{Name}
pub use Rattle.gh_model.specs.Ever.{Ever, ever_after}
pub use Rattle.gh_model.specs.declared.EverValue.{EverValue}
pub use Rattle.gh_heap.specs.Objects.{IsMade, Placed}
pub use Rattle.gh_heap.specs.Rights.{Arena, Good, IsOf, View}
pub use Rattle.gh_phase.specs.Handshake.{Acts, Awake, Gone, Party, Resumes, Stage, StageGoes, stop_word}
pub use Rattle.gh_phase.specs.Shakes.{IsAwake}
pub use Rattle.gh_phase.specs.Views.{run_phase}
pub use Rattle.gh_phase.specs.declared.resume.ResumeStage.{ResumeStage}
pub use Rattle.gh_phase.specs.declared.view.RunPhase.{RunPhase}
pub use Rattle.gh_sweep.specs.declared.sweep.SweepStage.{SweepStage}
pub use Rattle.gh_mutator.specs.Deeds.{answer_at, processor_kind}
pub use Rattle.gh_mutator.specs.Listing.{Act, acting, acts, asks, is_busy_at, takes}
pub use Rattle.gh_mutator.specs.Processor.{made_by, opening_processor}
pub use Rattle.gh_mutator.specs.ProcessorPlaces.{party_at, party_of, ProcessorInHandshake, stage_of}
pub use Rattle.gh_mutator.specs.Running.{IsSound}
pub use Rattle.gh_mutator.specs.Serving.{is_serving}
pub use Rattle.gh_mutator.specs.Sound.{has_names}
pub use Rattle.gh_mutator.specs.declared.new.NewStage.{NewStage}
pub use Rattle.gh_poll.specs.declared.poll.PollStage.{PollStage}
pub use Rattle.gh_mutator.specs.Processing.{Processor}
pub use Rattle.gh_mutator.specs.declared.task.Task.{Task}
pub use Rattle.gh_poll.specs.declared.wait.WaitStage.{WaitStage}
pub use Rattle.gh_mutator_writes.specs.Writing.{IsWritten, ProcessorWritesItsOwn, TellsScan, WritesOf}
pub use Rattle.gh_worker.specs.Writing.{WorkersWriteTheirOwn, WritesItsOwn}
pub use Rattle.gh_worker.specs.declared.worker.WorkerStage.{WorkerStage}
pub use Rattle.gh_coord.specs.Listing.{after_check, after_close, after_count, after_open, after_stop, after_stop_again, after_sweep, after_tell, after_watch, asks_at, at_stage, Coordinating, counted, goes, goes_at, stops_world}
pub use Rattle.gh_coord.specs.Stopping.{acks_of}
pub use Rattle.gh_coord.specs.declared.close.CloseStage.{CloseStage}
pub use Rattle.gh_coord.specs.declared.coord.CoordStage.{CoordStage}
pub use Rattle.gh_coord.specs.declared.coord.CoordStage.TheVariants.{Check, Close, Count, Done, LoadAck, LoadWant, MarkOn, Open, Stop, StopAgain, Sweep, Tell, Watch}
pub use Rattle.gh_coord.specs.declared.count.CountStage.{CountStage}
pub use Rattle.gh_coord.specs.declared.count.Counted.{Counted}
pub use Rattle.gh_coord.specs.declared.open.OpenStage.{OpenStage}
pub use Rattle.gh_coord.specs.declared.stop.StopStage.{StopStage}
pub use Rattle.gh_coord.specs.declared.sweep_all.SweepAllStage.{SweepAllStage}
pub use Rattle.gh_coord.specs.declared.tell.TellStage.{TellStage}
pub use Rattle.gh_coord.specs.declared.watch.WatchStage.{WatchStage}
pub use Rattle.gh_coord.specs.declared.watch.Watched.{Watched}
pub use Rattle.gh_coord.specs.declared.watch.Watched.TheVariants.{All, NotYet}
pub use Rattle.gh_lists.specs.Handshake.{is_busy, KeepsIt, Pacing}
pub use Rattle.gh_lists.specs.Lists.{arena, IsLed}
pub use Rattle.gh_lists.specs.Marking.{actors_after}
pub use Rattle.gh_coord.specs.Parts.{part_of}
pub use Rattle.gh_lists.specs.Numbers.{asked_after, generation_after, IsFew, opened_after, opened_in}
pub use Rattle.gh_lists.specs.Order.{has_left}
pub use Rattle.gh_lists.specs.Processors.{answers_of, given_of, may_leave}
pub use Rattle.gh_lists.specs.declared.handshake.Actor.{Actor}
