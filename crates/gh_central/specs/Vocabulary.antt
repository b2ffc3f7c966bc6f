-- The names that several files of specs/ share.
pub use Rattle.std.specs.Bool.{beq}
pub use Rattle.gh_base.specs.Cells.{InRange, seats_of, Words}
pub use Rattle.gh_base.specs.Machines.{Listing, Runs, steps_of}
pub use Rattle.gh_base.specs.Packing.{FitsHead, head_word, page_of}
pub use Rattle.gh_base.specs.Rows.{Row}
unfoldable pub use Rattle.gh_base.specs.Rows.{row_bit}
pub use Rattle.gh_base.specs.Steps.{cell_of, effect}
pub use Rattle.gh_base.specs.declared.cell.Ask.{Ask}
pub use Rattle.gh_base.specs.declared.cell.Ask.TheVariants.{Load, Store}
pub use Rattle.gh_base.specs.declared.cell.Cell.{Cell}
pub use Rattle.gh_base.specs.declared.cell.Cell.TheVariants.{Alloc, Page, Touch}
pub use Rattle.gh_base.specs.declared.layout.Layout.{Layout}
pub use Rattle.gh_base.specs.declared.pack.PageWord.{PageWord}
pub use Rattle.gh_base.specs.declared.pack.PageWord.TheVariants.{Free, Head}
pub use Rattle.gh_base.specs.declared.pack.SpanHead.{SpanHead}
pub use Rattle.gh_central.specs.declared.give.GiveStage.TheVariants.{Write}
pub use Rattle.gh_central.specs.declared.pass.PassStage.{PassStage}
pub use Rattle.gh_central.specs.declared.reclaim.Reclaim.{Reclaim}
pub use Rattle.gh_central.specs.declared.reclaim.ReclaimStage.{ReclaimStage}
pub use Rattle.gh_central.specs.declared.reclaim.ReclaimStage.TheVariants.{Bits, Body, Ended, Look, Sweep, Wait}
pub use Rattle.gh_central.specs.declared.unswept.UnsweptPass.{UnsweptPass}
pub use Rattle.gh_central.specs.declared.unswept.UnsweptStage.{UnsweptStage}
pub use Rattle.gh_central.specs.declared.unswept.UnsweptStage.TheVariants.{Take}
pub use Rattle.gh_class.specs.Classes.{pages_of, slot_words_of, slots_of}
pub use Rattle.gh_class.specs.declared.class.SizeClass.TheVariants.{Large, Small}
pub use Rattle.gh_class.specs.declared.class.SpanClass.{SpanClass}
pub use Rattle.gh_class.specs.declared.class.TheConstants.{CLASSES}
pub use Rattle.gh_heap.specs.Moves.{freed_yet, KeepsObjects, Leaves, Others, Steps, update}
pub use Rattle.gh_heap.specs.Rights.{Arena, FullBefore, Good, Right, Rights, Shared, TidyBefore, View, view}
pub use Rattle.gh_heap.specs.Spans.{BeingFreed, Freeing, IsEmpty, IsFull, IsSpan, Laying, numbered_by, owned_by}
pub use Rattle.gh_sweep.specs.Listing.{is_busy, once_swept, Sweeping}
pub use Rattle.gh_sweep.specs.declared.sweep.SweepEnd.{SweepEnd}
pub use Rattle.gh_sweep.specs.declared.sweep.SweepEnd.TheVariants.{Lost, Swept}
