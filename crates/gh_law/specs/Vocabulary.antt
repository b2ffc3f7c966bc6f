-- The names that several files of specs/ share.
pub use Rattle.gh_base.specs.Cells.{buffers_of, InRange, seats_of, Words}
pub use Rattle.gh_base.specs.Lists.{Begins, by, by as own, Legal, started, state_of, words_after}
pub use Rattle.gh_base.specs.declared.cell.Ask.{Ask}
pub use Rattle.gh_base.specs.declared.cell.Ask.TheVariants.{Or, Store}
pub use Rattle.gh_base.specs.declared.cell.Cell.{Cell}
pub use Rattle.gh_base.specs.declared.layout.Layout.{Layout}
pub use Rattle.gh_base.specs.declared.limits.TheConstants.{MOST_STATEMENTS}
pub use Rattle.gh_base.specs.declared.machine.Entry.{Entry}
pub use Rattle.gh_base.specs.declared.operation.Op.{Op}
pub use Rattle.gh_base.specs.declared.pack.TheConstants.{END, GONE}
pub use Rattle.gh_base.specs.declared.value.Name.{Name}
pub use Rattle.gh_coord.specs.Listing.{Coordinating, lapsed_at}
pub use Rattle.gh_coord.specs.Stopping.{acks_of}
pub use Rattle.gh_coord.specs.declared.coord.CoordStage.TheVariants.{Done, Open}
pub use Rattle.gh_holds.specs.Below.{FewAreScanned, GlobalsAreCounted, scanned_in}
pub use Rattle.gh_lists.specs.Handshake.{actors, asks, first_words, is_busy, IsExact, place_of, Setup, those, WaitsWithNone}
pub use Rattle.gh_lists.specs.Lists.{Given, IsLed, setup_for, words}
pub use Rattle.gh_lists.specs.Marking.{actors_after, IsBeginning, IsInLimits, IsLedBy, IsStartOf}
pub use Rattle.gh_lists.specs.Order.{before_step, begun_in}
pub use Rattle.gh_lists.specs.Processors.{answers_of, arena_of, at_seat, ever_after_list, given_of, IsPlacedAt, ListStands}
pub use Rattle.gh_lists.specs.Wants.{total}
pub use Rattle.gh_lists.specs.declared.handshake.Actor.{Actor}
pub use Rattle.gh_model.specs.Ever.{Ever, Reach}
pub use Rattle.gh_mutator.specs.Processing.{Processor}
pub use Rattle.gh_mutator.specs.ProcessorMarks.{only_polls}
pub use Rattle.gh_mutator_heap.specs.Facts.{ShapesAreGood}
