-- The names that several files of proofs/ share.
pub use Rattle.std.proofs.Math.ListN.{get_or-replicate, length-replicate, length-set, set}
pub use Rattle.std.proofs.lemmas.Bool.{cases_lt}
pub use Rattle.std.proofs.lemmas.Bool.Decides.{eqb_tells, nat_tests}
pub use Rattle.std.proofs.lemmas.List.{get_or_past}
pub use Rattle.std.proofs.lemmas.Nat.{mul-add-lt, same_from_place}
pub use Rattle.gh_tri.specs.Changes.{Change, changed_picture, ChangesKeepTheInvariants, Copy, Drop, MayChange, MayCopy}
pub use Rattle.gh_tri.specs.Invariants.{after, EachMay, Edge, EveryMoveKeepsTheInvariants, field, from_global, from_grey, from_white, globals, HasScanLeft, held, Invariants, IsMarkingDone, IsOpeningPicture, IsReachedInPicture, KeepsTheInvariants, MarkedWhatIsReached, NoWhiteObjectIsReached, Opens, Protected}
pub use Rattle.gh_tri.specs.Opening.{AreCells, AreObjects, opened_picture, put_in_table}
pub use Rattle.gh_tri.specs.Runs.{field_scans, object_scan, register_scans}
unfoldable pub use Rattle.gh_tri.specs.Shown.{picture_of}
pub use Rattle.gh_tri.specs.Tables.{by_three, cells}
pub use Rattle.gh_tri.specs.Tricolour.{greyed, IsBlackStack, IsField, IsGreyStack, IsMarked, IsStackRegister, May, MayAllocate, MayBlacken, MayLoad, MayStore, moved, NilOrMade, NilOrMarked, put1, put2, put3, put_row, shaded, Tricolour}
pub use Rattle.gh_tri.specs.declared.Colour.{Colour}
pub use Rattle.gh_tri.specs.declared.Colour.TheVariants.{Black, Grey, White}
pub use Rattle.gh_tri.specs.declared.Move.{Move}
pub use Rattle.gh_tri.specs.declared.Move.TheVariants.{Allocate, Blacken, Load, ReadOld, ScanField, ScanRegister, Shade, Store}
pub use mathlib.Core.Path.{fun_ext}
