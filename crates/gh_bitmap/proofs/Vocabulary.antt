-- The names that several files of proofs/ share.
pub use Rattle.std.proofs.Math.Nat.{div-add-mod, div-div-eq-div-mul, div-eq_of_lt, div-lt_iff_lt-mul, mod-eq_of_lt, mod-lt, mul-div_left, mul-mod_left, mul_comm, pow-le-pow_right}
pub use Rattle.std.proofs.Math.Pow.{pow-lt, pow_mono}
pub use Rattle.std.proofs.lemmas.Bool.Decides.{nat_tests}
pub use Rattle.std.proofs.lemmas.Nat.{mod-pow-add}
pub use Rattle.std.specs.Int.{bit_at, w64}
pub use Rattle.gh_base.specs.Cells.{put}
pub use Rattle.gh_base.specs.Rows.{bitmap_words, CellsAreTold, RowsAreWritten, with_word}
pub use Rattle.gh_base.specs.declared.cell.Cell.{Cell}
pub use Rattle.gh_bitmap.specs.Bits.{pointer_bits, slot_bits}
pub use Rattle.gh_bitmap.specs.Pointers.{AreSet, ReadsBit}
pub use Rattle.gh_bitmap.specs.SetPointers.{asks, asks_at, at_stage, given, given_at, goes, listing, next_stage, opening, PointerSetting, word_at}
pub use Rattle.gh_bitmap.specs.Sound.{Touches}
pub use Rattle.gh_bitmap.specs.Stepping.{ClearsBits, EachStepIsOnItsBits, FitsSlot, HasNone, IsHere, SetsBits, StepsOn}
pub use Rattle.gh_bitmap.specs.Vocabulary.{bit, Bitmap, bits_at, cell_of, Clear, effect, Ended, is_pointer, Layout, pointer_bit, Row, Set, SetStage, Shape, steps_of, Words}
unfoldable pub use Rattle.gh_bitmap.specs.Vocabulary.{row_bit}
