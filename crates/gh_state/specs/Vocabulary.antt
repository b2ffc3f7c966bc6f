-- The names that several files of specs/ share.
pub use Rattle.gh_base.specs.Cells.{opening_words, put, seats_of, Words}
pub use Rattle.gh_base.specs.Packing.{page_of, tally_of}
pub use Rattle.gh_base.specs.Rows.{alloc_words, mark_words, page_words, Row, row_bit, with_word}
pub use Rattle.gh_base.specs.declared.cell.Cell.{Cell}
pub use Rattle.gh_base.specs.declared.pack.PageWord.TheVariants.{Body, Free, Head}
pub use Rattle.gh_base.specs.declared.pack.SpanHead.{SpanHead}
pub use Rattle.gh_base.specs.declared.value.Name.{Name}
pub use Rattle.gh_heap.specs.Moves.{Leaves, update}
pub use Rattle.gh_heap.specs.Rights.{Arena, Shared as Heap}
pub use Rattle.gh_heap.specs.Spans.{IsSpan, numbered_by}
pub use Rattle.gh_model.specs.Ever.{Ever, Reach}
pub use Rattle.gh_sweep.specs.Listing.{asks, goes, is_busy, opening, slot_bytes, Sweeping}
pub use Rattle.gh_sweep.specs.Shared.{alloc_at, bit_words_of, CycleEnd, Done, Due, Far, freed_at, generation_of, HasEnded, in_all, InSpan, kept_at, live_at, marks_at, placed, Shared as Sweep, StandGood}
