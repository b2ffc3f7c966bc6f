-- The names that several files of specs/ share.
pub use Rattle.std.specs.Option.{option_to_list}
pub use Rattle.gh_alloc.specs.FindFacts.{IsCached, own_found, with_span}
pub use Rattle.gh_base.specs.Cells.{InRange, seats_of}
pub use Rattle.gh_base.specs.Holding.{IsHeld}
pub use Rattle.gh_base.specs.Steps.{effect}
pub use Rattle.gh_base.specs.declared.layout.Layout.{Layout}
pub use Rattle.gh_base.specs.declared.limits.TheConstants.{MOST_STATEMENTS}
pub use Rattle.gh_heap.specs.Moves.{GoroutineRuns, KeepsObjects, Others, Steps}
pub use Rattle.gh_heap.specs.Objects.{IsMade, Means, points, size_for}
pub use Rattle.gh_heap.specs.Rights.{Arena, Good, Right, Rights, Shared, Shared as Heap, View, view}
pub use Rattle.gh_model.specs.Ever.{Ever, fits, is_number, opening_ever}
pub use Rattle.gh_mutator.specs.Deeds.{acted, answer_at, given_at, point_of, processor_kind}
pub use Rattle.gh_mutator.specs.Listing.{Act, acts, asks, begins, gives, is_busy_at, takes}
pub use Rattle.gh_mutator.specs.Processing.{Processor}
pub use Rattle.gh_mutator.specs.Processor.{cached_for, opening_processor}
pub use Rattle.gh_mutator.specs.Sweeping.{sweep_in}
pub use Rattle.gh_mutator.specs.Vocabulary.{Answer, cell_of, IsOf, Leaving, MOST_GOROUTINES, Op, Polling, REGISTERS, Shape, Small, SpanClass, Waiting}
pub use Rattle.gh_mutator.specs.declared.task.Task.{Task}
pub use Rattle.gh_phase.specs.Shakes.{IsParked}
pub use Rattle.gh_poll.specs.Local.{cache_with, cached_in, leaving, register_at, with_nothing}
pub use Rattle.gh_poll.specs.Wait.{waiting}
pub use Rattle.gh_sweep.specs.Listing.{is_busy, Sweeping}
pub use Rattle.gh_wbuf.specs.Sound.{SoundGiveStage, SoundRoomFinding}
