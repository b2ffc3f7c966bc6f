-- The names that several files of specs/ share.
pub use Rattle.gh_base.specs.Rows.{alloc_words, birth_words, field_words, global_words, mark_words, RowsAreWritten}
unfoldable pub use Rattle.gh_base.specs.Rows.{row_bit}
pub use Rattle.gh_base.specs.declared.cell.Ask.{Ask}
pub use Rattle.gh_base.specs.declared.cell.Cell.{Cell}
pub use Rattle.gh_base.specs.declared.limits.TheConstants.{REGISTERS}
pub use Rattle.gh_base.specs.declared.pack.TheConstants.{END}
pub use Rattle.gh_base.specs.declared.value.Name.{Name}
pub use Rattle.gh_heap.specs.Objects.{IsMade, Place, Placed, points, reference_to, shape_for, size_for}
pub use Rattle.gh_heap.specs.Rights.{Arena, Claims, Good, Shared, Shared as Heap, View, view}
pub use Rattle.gh_marks.specs.Colours.{Cycle, HasMark, IsClean, Placing, seen_field, seen_global, seen_word, Shared as Marking}
pub use Rattle.gh_marks.specs.Ends.{EachReachedIsMarked, Opens}
pub use Rattle.gh_marks.specs.Good.{Good as MarkingGood}
pub use Rattle.gh_model.specs.Ever.{answer_of, Ever, ever_after, names, next_name, opening_ever, Reach, with_end, with_field, with_global, with_object, with_register}
pub use Rattle.gh_model.specs.declared.EverValue.{EverValue}
