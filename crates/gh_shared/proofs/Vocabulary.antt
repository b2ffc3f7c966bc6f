-- The names that several files of proofs/ share.
pub use Rattle.std.proofs.lemmas.Bool.Decides.{nat_tests}
pub use Rattle.std.proofs.lemmas.List.Elements.{All-cons, All-head, All-nil, All-tail}
pub use Rattle.std.proofs.lemmas.List.Sums.{sum_by-set, sum_by_more_le}
pub use Rattle.std.proofs.lemmas.Option.{slice_get-get_or}
pub use Rattle.atomic_table.specs.Table.{Me}
pub use Rattle.gh_actor.specs.Acting.{Acting}
pub use Rattle.gh_actor.specs.ActingRuns.{gave_so, ran_by}
pub use Rattle.gh_actor.specs.Counting.{CountsFirst, gone_after, HasOneAt, left_after, MayCount, over_after}
pub use Rattle.gh_actor.specs.Machines.{ends_with_answer, IsAtRest, IsCoordinator, IsOther, MachineMayBegin, ProcessorMay}
pub use Rattle.gh_base.specs.Cells.{Words}
pub use Rattle.gh_base.specs.Lists.{Kind, Setting, started}
pub use Rattle.gh_base.specs.Packing.{name_of}
pub use Rattle.gh_base.specs.Routines.{EndsWithin, told}
pub use Rattle.gh_base.specs.declared.cell.Ask.{Ask}
pub use Rattle.gh_base.specs.declared.cell.Cell.{Cell}
pub use Rattle.gh_base.specs.declared.shape.Shape.{Shape}
pub use Rattle.gh_base.specs.declared.value.Fault.{Fault}
pub use Rattle.gh_base.specs.declared.value.Value.{Value}
pub use Rattle.gh_coord.specs.GoingOn.{GoesOnUntilDone, HasNext}
pub use Rattle.gh_lists.specs.Order.{goroutine_is_over, in_range}
pub use Rattle.gh_lists.specs.Processors.{all_ended, has_more, is_of, may_leave}
pub use Rattle.gh_lists.specs.Wants.{total}
pub use Rattle.gh_mutator.specs.AtOnce.{bits_cell, object_in}
pub use Rattle.gh_mutator.specs.Deeds.{processor_kind}
pub use Rattle.gh_mutator.specs.Faults.{FaultChangesNothing, FaultsChangeNothing, rested}
pub use Rattle.gh_mutator.specs.Fields.{birth_cell, field_cell, has_field, is_pointer_by, page_cell, takes, value_of, value_told}
pub use Rattle.gh_mutator.specs.Listing.{begins_at, follows, is_busy_at, takes_at}
pub use Rattle.gh_mutator.specs.Mutating.{marks_after, Mutating}
pub use Rattle.gh_mutator.specs.Processing.{Processor}
pub use Rattle.gh_mutator.specs.Processor.{at_task, made_by, opening_processor, register_of, set_register, taking}
pub use Rattle.gh_mutator.specs.Serving.{has_left_at, is_leaving}
pub use Rattle.gh_mutator.specs.declared.load.Load.{Load}
pub use Rattle.gh_mutator.specs.declared.load.LoadStage.{LoadStage}
pub use Rattle.gh_mutator.specs.declared.load.LoadStage.TheVariants.{Birth, Bits, Field, NilBase, Page}
pub use Rattle.gh_mutator.specs.declared.step.Then.TheVariants.{Ends}
pub use Rattle.gh_mutator.specs.declared.task.Task.{Task}
pub use Rattle.gh_script.specs.Program.{Program, WellFormed}
pub use Rattle.gh_shared.specs.AtOnce.{RanAtOnce}
pub use Rattle.gh_shared.specs.Calls.{Fits, IsClosedAfter, Operated, RunsIt, ShowsAfter}
pub use Rattle.gh_shared.specs.Handles.{ended_at, ended_of, IsFresh, layout_of, machine_of, number_of, own_of, plan_of, room_at, runs_in, view_of}
pub use Rattle.gh_shared.specs.Shown.{as_actor, asks_for_cycle, CarriesSo, CoordinatorGoesOn, count_among, CountsSo, credit_drawn, drawn_beside, first_of, IsKeptByHandle, leader_of, left_by, ProcessorRests, requests_begun, RestsIfProcessor, runs_by}
pub use Rattle.gh_shared.specs.Vocabulary.{acks_of, Actor, Answer, arena_of, asked_by, asks, asks_collector, BeganAsEach, begins, by, Carries, Coordinating, ended_in, ends, Entry, Gave, given_of, gives, goes, goroutine_of, has, has_left, HasShapes, HeapActor, is_busy, is_coordinator, is_load, IsProcessor, Layout, LaysOut, Leads, leaves, Legal, machine_actor, Marks, one_carried, Op, opening, Planned, Ran, Runs, same_cell, SawLegalList, seats_of, setting, setup_of, spent_among, spent_at, state_of, View, words_after}
pub use Rattle.gh_shared.specs.declared.handle.Handle.{Handle}
pub use Rattle.gh_table.specs.Rule.{actor_in, IsAfterOneList, MayAsk, Tells}
pub use Rattle.gh_table.specs.Runs.{begun_next, entries_made, machine_after}
pub use Rattle.gh_table.specs.Views.{entry, rest_carried}
pub use Rattle.gh_world.proofs.Due.{both_true, leaves_is}
pub use Rattle.gh_world.specs.Wishes.{most_cycles, wishes_of}
pub use Rattle.gh_world.specs.World.{making, may_begin_of}
