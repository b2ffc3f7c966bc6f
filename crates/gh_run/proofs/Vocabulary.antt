-- The names that several files of proofs/ share.
pub use Rattle.std.proofs.lemmas.Bool.Decides.{nat_tests}
pub use Rattle.std.proofs.lemmas.List.{get_or_past, take_more}
pub use Rattle.std.proofs.lemmas.List.Sums.{sum_by-append, sum_by-take-le, sum_by_more}
pub use Rattle.std.proofs.lemmas.Nat.{mod_below}
pub use Rattle.std.specs.List.{filter, range_with_len}
pub use Rattle.std.specs.Option.{option_to_list}
pub use Rattle.std.specs.Vec.{vec_capacity}
pub use Rattle.std.specs.Vec.Iter.{into_iter_items, into_iter_len}
pub use Rattle.gh_actor.specs.Machines.{asks, begins, ends_with_answer, gives, goes, HasShapes, IsCoordinator, IsOther, IsProcessor, IsWorker, machine_actor, opening}
pub use Rattle.gh_actor.specs.Plans.{Planned, setting}
pub use Rattle.gh_actor.specs.declared.actor.HeapActor.{HeapActor}
pub use Rattle.gh_actor.specs.declared.actor.HeapActor.TheVariants.{Leads, Marks, Runs}
pub use Rattle.gh_base.specs.Cells.{seats_of}
pub use Rattle.gh_base.specs.Lists.{by, Kind, Legal, started, state_of}
pub use Rattle.gh_base.specs.Orders.{given_by}
pub use Rattle.gh_base.specs.declared.layout.Layout.{Layout}
pub use Rattle.gh_base.specs.declared.machine.Entry.{Entry}
pub use Rattle.gh_base.specs.declared.operation.Op.{Op}
pub use Rattle.gh_base.specs.declared.value.Answer.{Answer}
pub use Rattle.gh_coord.specs.Keeping.{last_kept}
pub use Rattle.gh_coord.specs.Listing.{Coordinating, lapsed_at}
pub use Rattle.gh_coord.specs.Stopping.{acks_of}
pub use Rattle.gh_gate.specs.Jobs.{AllHaveRun}
pub use Rattle.gh_lines.specs.Text.{answers_by}
pub use Rattle.gh_lists.specs.Order.{begun_in, ended_in, goroutine_of, has_left}
pub use Rattle.gh_lists.specs.Processors.{all_ended, arena_of, asked_by, given_of}
pub use Rattle.gh_lists.specs.declared.handshake.Actor.{Actor}
pub use Rattle.gh_mutator.specs.Deeds.{deeds, given_at, has_point, processor_kind}
pub use Rattle.gh_mutator.specs.Listing.{begins as begins_by, gives_at, is_busy_at, takes, takes_at}
pub use Rattle.gh_mutator.specs.Mutating.{Mutating}
pub use Rattle.gh_mutator.specs.Processing.{Processor}
pub use Rattle.gh_mutator.specs.Serving.{has_left_at, is_leaving, is_statement}
pub use Rattle.gh_mutator.specs.declared.task.Task.{Task}
pub use Rattle.gh_run.specs.Jobs.{answers_in, AreDoneOf, AreJobsOf, EachFrom, IsAtEnd, IsAtStart, IsBetweenTurns, IsDoneOf, IsJobOf, of_goroutine, told, told_in_order, which_job, WhichJob}
pub use Rattle.gh_run.specs.Told.{IsRunByThreads}
pub use Rattle.gh_run.specs.declared.job.HeapJob.{HeapJob}
pub use Rattle.gh_script.specs.Program.{no_goroutine, Program, statement_as_op, statements_in, statements_of, WellFormed}
pub use Rattle.gh_shared.proofs.Keeping.{by_made, runs_after}
pub use Rattle.gh_shared.proofs.Ready.{has_room_then, OfItsOwn}
pub use Rattle.gh_shared.specs.Calls.{Fits, Gathered, IsClosedAfter, May, Operated, RanToItsEnd, RunsIt}
pub use Rattle.gh_shared.specs.Handles.{carries_of, ended_at, ended_of, IsFresh, IsHandleOf, IsHeapOf, layout_of, machine_of, number_of, own_of, plan_of, room_at, view_of}
pub use Rattle.gh_shared.specs.Shown.{count_among, left_by, runs_by}
pub use Rattle.gh_shared.specs.declared.handle.Handle.{Handle}
pub use Rattle.gh_shared.specs.declared.heap.Heap.{Heap}
pub use Rattle.gh_table.specs.Runs.{begun_next, entries_made, Gave, machine_after}
pub use Rattle.gh_table.specs.declared.plan.View.{View}
pub use Rattle.gh_world.proofs.Explained.Steps.{begins_pointed, given_is, is_pointed, statement_pointed, stays_pointed}
pub use Rattle.gh_world.proofs.Resting.{is_processor}
pub use Rattle.gh_world.specs.After.{KeepsPlace}
pub use Rattle.gh_world.specs.Due.{EachKeepsItsPlace, FitsOwnEntries, PlacesAreKept, WhatIsDueFits}
pub use Rattle.gh_world.specs.Runs.{answers_at, answers_given, EveryRunIsExplained, IsRun, marked_by, outcome_by, spent_after, swept_cycle}
pub use Rattle.gh_world.specs.Turns.{count_of, Follows, is_of_seat, is_poll_due, is_run_due, is_statement_of, its_goroutine, leave_is_begun, op_due, statements_among, to_come, total_of, turns_of}
pub use Rattle.gh_world.specs.Wishes.{most_cycles, wishes_of}
pub use Rattle.gh_world.specs.World.{AreTurns, LaysOut, opening_progress, pacing_of, progress_after}
pub use Rattle.gh_world.specs.declared.progress.Progress.{Progress}
pub use Rattle.gh_world.specs.declared.turns.Next.{Next}
