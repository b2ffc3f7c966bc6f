-- The names that several files of specs/ share.
pub use Rattle.gh_base.specs.Cells.{put, seats_of, Words}
pub use Rattle.gh_base.specs.Machines.{Listing, Runs, steps_of}
pub use Rattle.gh_base.specs.Packing.{page_of, slot_in}
pub use Rattle.gh_base.specs.Rows.{bitmap_words, field_words, pointer_bit, Row}
pub use Rattle.gh_base.specs.declared.cell.Ask.TheVariants.{Load}
pub use Rattle.gh_base.specs.declared.cell.Cell.{Cell}
pub use Rattle.gh_base.specs.declared.cell.Cell.TheVariants.{Bitmap, Field, Page, Touch}
pub use Rattle.gh_base.specs.declared.held.Held.{Held}
pub use Rattle.gh_base.specs.declared.layout.Layout.{Layout}
pub use Rattle.gh_scan.specs.declared.scan.Scan.{Scan}
pub use Rattle.gh_scan.specs.declared.scan.ScanStage.{ScanStage}
pub use Rattle.gh_scan.specs.declared.scan.ScanStage.TheVariants.{Ended, FindRoom, LoadBitmap, LoadField, LoadPage, Shading}
pub use Rattle.gh_shade.specs.declared.shade.Shaded.TheVariants.{Done, WantsRoom}
