-- The names that several files of proofs/ share.
pub use Rattle.std.proofs.lemmas.Bool.Decides.{nat_tests}
pub use Rattle.gh_base.specs.Cells.{InRange, length_of, put, same_cell, ShowsCells, word_of, Words}
pub use Rattle.gh_base.specs.Packing.{birth_word, buffer_of, buffer_word, FitsBuffer, FitsPage, name_of, PackedWordsAreReadBack, page_of, page_word, phase_of, phase_word, tally_of, tally_word}
pub use Rattle.gh_base.specs.Rows.{CellsAreTold, Row, RowsAreWritten, with_word}
unfoldable pub use Rattle.gh_base.specs.Rows.{row_bit}
pub use Rattle.gh_base.specs.Steps.{cell_of, changed, effect, left, request, target}
pub use Rattle.gh_base.specs.Vocabulary.{Ask, Cell, Load, Or, Store, Swap}
pub use Rattle.gh_base.specs.declared.cell.Ask.TheVariants.{Add, And}
pub use Rattle.gh_base.specs.declared.layout.Layout.{Layout}
