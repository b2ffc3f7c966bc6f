-- The names that several files of specs/ share.
pub use Rattle.std.specs.Int.{bit_at}
pub use Rattle.gh_base.specs.Cells.{put, seats_of, Words}
pub use Rattle.gh_base.specs.Machines.{Listing, steps_of}
pub use Rattle.gh_base.specs.Packing.{bit, FitsHead, head_word, page_of, tally_of, tally_word}
pub use Rattle.gh_base.specs.Routines.{Alone, EndsWith, EndsWithin, Leaves, told}
pub use Rattle.gh_base.specs.Rows.{alloc_bit, alloc_words, mark_bit, mark_words, page_words, Row, row_bit, with_word}
pub use Rattle.gh_base.specs.Steps.{cell_of, effect}
pub use Rattle.gh_base.specs.declared.cell.Ask.{Ask}
pub use Rattle.gh_base.specs.declared.cell.Ask.TheVariants.{Add, And, Load, Store, Swap}
pub use Rattle.gh_base.specs.declared.cell.Cell.{Cell}
pub use Rattle.gh_base.specs.declared.cell.Cell.TheVariants.{Alloc, Mark, Page, Touch}
pub use Rattle.gh_base.specs.declared.layout.Layout.{Layout}
pub use Rattle.gh_base.specs.declared.pack.PageWord.{PageWord}
pub use Rattle.gh_base.specs.declared.pack.PageWord.TheVariants.{Body, Free, Head}
pub use Rattle.gh_base.specs.declared.pack.SpanHead.{SpanHead}
pub use Rattle.gh_class.specs.Classes.{pages_of, slot_of, slot_words_of, slots_of}
pub use Rattle.gh_class.specs.declared.class.SizeClass.TheVariants.{Large, Small}
pub use Rattle.gh_heap.specs.Spans.{IsSpan, LaidOut, Laying, owned_by}
pub use Rattle.gh_sweep.specs.declared.sweep.Sweep.{Sweep}
pub use Rattle.gh_sweep.specs.declared.sweep.SweepEnd.{SweepEnd}
pub use Rattle.gh_sweep.specs.declared.sweep.SweepEnd.TheVariants.{Lost, Swept}
pub use Rattle.gh_sweep.specs.declared.sweep.SweepStage.{SweepStage}
pub use Rattle.gh_sweep.specs.declared.sweep.SweepStage.TheVariants.{AddHeap, AddLive, AddTally, Begin, ClearBits, ClearMarks, Ended, Finish, LoadMarks}
pub use Rattle.gh_sweep.specs.declared.sweep.SweptSpan.{SweptSpan}
