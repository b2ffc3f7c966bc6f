-- The names that several files of proofs/ share.
pub use Rattle.std.proofs.lemmas.Bool.{cases_lt}
pub use Rattle.std.proofs.lemmas.Bool.Decides.{eqb_tells, nat_tests}
pub use Rattle.gh_base.specs.Holding.{BuffersAreHeld, KnowsCount}
pub use Rattle.gh_base.specs.Rows.{RowsAreWritten}
pub use Rattle.gh_heap.specs.Moves.{update, update_at}
pub use Rattle.gh_marks.specs.Colours.{Black, Buffered, buffers_as_held, Claimed, Colour, Cycle, entry_words, Extents, from_global, from_grey, from_white, GlobalWaits, HasMark, IsClean, IsGrey, IsMarked, IsPointer, IsSafe, IsShaded, IsSince, mark_of, Pending, Placing, Progress, Protected, Read, rows, Scanned, scanned_words, seen_field, seen_global, seen_row, seen_word, Shared, Taken, Untouched, White}
pub use Rattle.gh_marks.specs.Ends.{IsDone, IsFoundAtTheEnd, Opens, Reached}
pub use Rattle.gh_marks.specs.Good.{CursorGood, EntriesGood, Good, MarksGood, ObjectsGood, PassesGood, seats_among, StacksGood, ValuesGood}
pub use Rattle.gh_marks.specs.Laws.{EachFactLasts, EachHandFollows, EachHandLasts, EachMoveKeeps, EachMoveLeaves, EachMoveLeavesTheDead, EachStepGoesByMoves, MarkingBegins, MarkingEndsClean, MarksStayWords, StepsGoByMoves, TheCursorIsSmall, TheDeadAreWhite, WhatIsFoundIsDone}
pub use Rattle.gh_marks.specs.Moves.{Blacken, ClaimGlobal, EndStack, Enter, from_field, from_nothing, from_register, GiveBuffer, goes, IsAside, IsQuietInMarking, Keeps, LeavesStacks, May, MayBring, MayPlace, MayShade, Move, moved, Others, PassGlobals, Place, PutField, PutGlobal, Quiet, ReadGlobal, Reserve, SameExtent, ScanGlobal, ScanStack, set_alloc, set_mark, SetRegister, Shade, Shade as Shades, ShadeAgain, ShadeFlat, TakeBuffer, TakeEntry, Went, with_bit}
pub use Rattle.gh_marks.specs.Picture.{BeginsDrawn, CyclesBeginDrawn, EachMoveIsDrawn, EachStepIsDrawn, IsDrawn, many, MarkingEndsDrawn, ThePictureSays, WhatThePictureSays}
pub use Rattle.gh_marks.specs.Seats.{ClaimOf, Hands, Has, InHand, NoClaim, ReadOf}
pub use Rattle.gh_marks.specs.Shows.{global_at, is_black_stack, is_scanned, IsPictured, Names, nothing, Numbers, object, pointer_at, shade_of, Shows}
pub use Rattle.gh_marks.specs.Vocabulary.{alloc_words, AreCounted, AreWords, Ask, bit, buffer_of, buffer_words, Cell, effect, END, ENTRIES, field_words, global_words, Held, holder_in, HoldsBuffer, Invariants, IsMarkingDone, IsOf, IsOpeningPicture, mark_words, put, REGISTERS, Row, row_bit, seats_of, Tricolour, Words}
pub use Rattle.gh_tri.specs.Changes.{Copy, Drop}
pub use Rattle.gh_tri.specs.Invariants.{IsReachedInPicture, MarkedWhatIsReached, Opens as OpeningsHold}
pub use Rattle.gh_tri.specs.Steps.{changes, EachStepKeepsTheInvariants, Goes, moves, stays}
pub use Rattle.gh_tri.specs.Tricolour.{IsBlackStack, IsField, IsGreyStack, NilOrMade, NilOrMarked, put1, put2, put3, put_row, shaded}
pub use Rattle.gh_tri.specs.declared.Move.TheVariants.{Allocate, Load, ReadOld, ScanField, ScanRegister, Store}
