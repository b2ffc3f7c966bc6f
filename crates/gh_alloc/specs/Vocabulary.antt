-- The names that several files of specs/ share.
pub use Rattle.gh_alloc.specs.declared.find.After.{After}
pub use Rattle.gh_alloc.specs.declared.find.After.TheVariants.{Again, End}
pub use Rattle.gh_alloc.specs.declared.find.Find.{Find}
pub use Rattle.gh_alloc.specs.declared.find.FindStage.{FindStage}
pub use Rattle.gh_alloc.specs.declared.find.FindStage.TheVariants.{Carve, Ended, Give, Lock, Pass, Slots, Unlock, Unswept}
pub use Rattle.gh_alloc.specs.declared.place.PlaceStage.{PlaceStage}
pub use Rattle.gh_alloc.specs.declared.place.PlaceStage.TheVariants.{Alloc, Birth, Bits, Clear, Count, LoadTrigger, Mark}
pub use Rattle.gh_alloc.specs.declared.search.Search.{Search}
pub use Rattle.gh_alloc.specs.declared.search.SearchStage.{SearchStage}
pub use Rattle.gh_alloc.specs.declared.search.SearchStage.TheVariants.{First, Free, Second}
pub use Rattle.gh_alloc.specs.declared.sought.CachedSpan.{CachedSpan}
pub use Rattle.gh_alloc.specs.declared.sought.Found.{Found}
pub use Rattle.gh_alloc.specs.declared.sought.Found.TheVariants.{At, NoRoom}
pub use Rattle.gh_alloc.specs.declared.sought.Sought.{Sought}
pub use Rattle.gh_alloc.specs.declared.sought.Sought.TheVariants.{Large, Small}
pub use Rattle.gh_base.specs.Cells.{InRange, seats_of}
pub use Rattle.gh_base.specs.Footprints.{Footprint}
pub use Rattle.gh_base.specs.Machines.{Listing, Runs, steps_of}
pub use Rattle.gh_base.specs.Packing.{birth_word, FitsHead, head_word, page_of, slot_for}
pub use Rattle.gh_base.specs.Routines.{EndsWith, GoesOn, told}
pub use Rattle.gh_base.specs.Steps.{cell_of, effect}
pub use Rattle.gh_base.specs.declared.cell.Ask.{Ask}
pub use Rattle.gh_base.specs.declared.cell.Ask.TheVariants.{Add, Load, Or, Store, Swap}
pub use Rattle.gh_base.specs.declared.cell.Cell.{Cell}
pub use Rattle.gh_base.specs.declared.cell.Cell.TheVariants.{Heap, Trigger}
pub use Rattle.gh_base.specs.declared.layout.Layout.{Layout}
pub use Rattle.gh_base.specs.declared.limits.TheConstants.{MOST_PAGES, MOST_STATEMENTS, REGISTERS}
pub use Rattle.gh_base.specs.declared.pack.SpanHead.{SpanHead}
pub use Rattle.gh_base.specs.declared.shape.Shape.{Shape}
pub use Rattle.gh_base.specs.declared.value.Name.{Name}
pub use Rattle.gh_central.specs.Reclaim.{Reclaiming}
pub use Rattle.gh_central.specs.Sweeping.{SweepLeaves}
pub use Rattle.gh_class.specs.Classes.{pages_of, size_class_of, slot_words_of, slots_of}
pub use Rattle.gh_class.specs.declared.class.SizeClass.{SizeClass}
pub use Rattle.gh_class.specs.declared.class.SpanClass.{SpanClass}
pub use Rattle.gh_heap.specs.Moves.{GoroutineRuns, KeepsObjects, Leaves, Others, placed_at, Steps, update}
pub use Rattle.gh_heap.specs.Rights.{Arena, Claims, Good, Right, Rights, Shared, TidyBefore, View, view}
pub use Rattle.gh_heap.specs.Spans.{Freeing, IsFull, IsSpan, IsVacant, Laying, owned_by}
pub use Rattle.gh_sweep.specs.Listing.{Sweeping}
