-- The names that several files of specs/ share.
pub use Rattle.gh_actor.specs.Machines.{asks, begins, gives, goes, HasShapes, is_busy, is_coordinator, IsProcessor, machine_actor, opening}
pub use Rattle.gh_actor.specs.Plans.{Planned, setting}
pub use Rattle.gh_actor.specs.declared.actor.HeapActor.{HeapActor}
pub use Rattle.gh_actor.specs.declared.actor.HeapActor.TheVariants.{Leads, Marks, Runs}
pub use Rattle.gh_base.specs.Cells.{length_of, same_cell, seats_of, ShowsCells}
pub use Rattle.gh_base.specs.Lists.{by, Legal, state_of, words_after}
pub use Rattle.gh_base.specs.declared.layout.Layout.{Layout}
pub use Rattle.gh_base.specs.declared.machine.Entry.{Entry}
pub use Rattle.gh_base.specs.declared.operation.Op.{Op}
pub use Rattle.gh_base.specs.declared.value.Answer.{Answer}
pub use Rattle.gh_coord.specs.Listing.{Coordinating}
pub use Rattle.gh_coord.specs.Stopping.{acks_of}
pub use Rattle.gh_lists.specs.Order.{ended_in, ends, goroutine_of, has_left, leaves}
pub use Rattle.gh_lists.specs.Processors.{answers_of, AnswersAsEver, arena_of, asked_by, asks_collector, at_seat, given_of}
pub use Rattle.gh_lists.specs.declared.handshake.Actor.{Actor}
pub use Rattle.gh_mutator.specs.Faults.{is_load}
pub use Rattle.gh_table.specs.Runs.{Gave, Ran, SawLegalList}
pub use Rattle.gh_table.specs.Views.{BeganAsEach, Carries, has, one_carried}
pub use Rattle.gh_table.specs.declared.plan.View.{View}
pub use Rattle.gh_world.specs.Below.{spent_among, spent_at}
pub use Rattle.gh_world.specs.World.{LaysOut, MadeAtMost, setup_of}
