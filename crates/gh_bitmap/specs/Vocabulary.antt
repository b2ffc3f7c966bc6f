-- The names that several files of specs/ share.
pub use Rattle.gh_base.specs.Cells.{InRange, Words}
pub use Rattle.gh_base.specs.Machines.{Listing, steps_of}
pub use Rattle.gh_base.specs.Packing.{bit}
pub use Rattle.gh_base.specs.Rows.{pointer_bit, Row}
unfoldable pub use Rattle.gh_base.specs.Rows.{row_bit}
pub use Rattle.gh_base.specs.Shapes.{bits_at, is_pointer}
pub use Rattle.gh_base.specs.Steps.{cell_of, effect}
pub use Rattle.gh_base.specs.declared.cell.Ask.{Ask}
pub use Rattle.gh_base.specs.declared.cell.Ask.TheVariants.{And, Load, Or}
pub use Rattle.gh_base.specs.declared.cell.Cell.TheVariants.{Bitmap, Touch}
pub use Rattle.gh_base.specs.declared.layout.Layout.{Layout}
pub use Rattle.gh_base.specs.declared.shape.Shape.{Shape}
pub use Rattle.gh_bitmap.specs.declared.set_pointers.SetStage.{SetStage}
pub use Rattle.gh_bitmap.specs.declared.set_pointers.SetStage.TheVariants.{Clear, Ended, Set}
