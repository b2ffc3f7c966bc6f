-- The names that several files of proofs/ share.
pub use Rattle.std.proofs.Math.Nat.{mod-eq_of_lt, mul-mod_right}
pub use Rattle.std.specs.Int.{bit_at}
pub use Rattle.gh_base.specs.Packing.{bit, FitsPage}
pub use Rattle.gh_base.specs.Routines.{EndsWith, GoesOn}
pub use Rattle.gh_base.specs.Rows.{CellsAreTold, RowsAreWritten}
unfoldable pub use Rattle.gh_base.specs.Rows.{row_bit}
pub use Rattle.gh_base.specs.Steps.{cell_of, effect}
pub use Rattle.gh_base.specs.declared.pack.PageWord.{PageWord}
pub use Rattle.gh_class.specs.Classes.{slot_of}
pub use Rattle.gh_marks.specs.Colours.{Cycle, IsClean, IsMarked, IsPointer, IsSince, seen_field, seen_row, seen_word, Shared, Taken}
pub use Rattle.gh_marks.specs.Good.{Good}
pub use Rattle.gh_marks.specs.Laws.{EachFactLasts, EachHandFollows, EachHandLasts, EachOwnMoveLeaves, EachStepGoesByMoves, FactsLast, WhatIsKeptGoesOn}
pub use Rattle.gh_marks.specs.Moves.{Blacken, Keeps, landing, landing_on, Lands, lands_by, lands_still, Others, SameExtent, Steps, Went, seen_some}
pub use Rattle.gh_marks.specs.Seats.{Hands, InHand}
pub use Rattle.gh_scan.specs.Facts.{besides, BitsAre, CleanBefore, Facts, FoundStillStands, in_hand, IsAt, IsAtPointerField, ScansByMoves, Shades, StageFacts}
pub use Rattle.gh_scan.specs.Listing.{after_room, after_shade, asks, asks_at, at_next, at_stage, behind, bit_says_pointer, end, given, given_at, goes, goes_at, is_busy, is_loaded, listing, loads_at, next_from, next_in, object_of, reference_in, Scanning, transitions, with_bits, with_found_field}
pub use Rattle.gh_scan.specs.Scans.{after, AreTold, begun, begun_between, bits_of, DoneWith, EndsAtOnce, field_of, from, InSlot, IsDoneWithWord, LiesInHeap, NoneLeft, references_at, references_in, ScansInOrder, ScansObject, shaded_at, ShadesAsTold, slot_told, StepsAt, WasLoaded, words_told}
pub use Rattle.gh_scan.specs.Vocabulary.{Bitmap, bitmap_words, Cell, Done, Ended, Field, field_words, FindRoom, Held, Layout, Load, LoadBitmap, LoadField, LoadPage, Page, page_of, pointer_bit, put, Row, ScanStage, Shading, slot_in, Touch, WantsRoom, Words}
pub use Rattle.gh_shade.specs.declared.shade.Shaded.{Shaded}
