-- The names that several files of specs/ share.
pub use Rattle.gh_barrier.specs.declared.pointer_cell.PointerCell.{PointerCell}
pub use Rattle.gh_barrier.specs.declared.pointer_cell.PointerCell.TheVariants.{Field, Global}
pub use Rattle.gh_barrier.specs.declared.write_pointer.WritePointer.{WritePointer}
pub use Rattle.gh_barrier.specs.declared.write_pointer.WriteStage.{WriteStage}
pub use Rattle.gh_barrier.specs.declared.write_pointer.WriteStage.TheVariants.{Ended, LoadOld, ShadeNew, ShadeOld, Store}
pub use Rattle.gh_base.specs.Cells.{InRange}
pub use Rattle.gh_base.specs.Holding.{IsHeld}
pub use Rattle.gh_base.specs.Machines.{Listing, Runs}
pub use Rattle.gh_base.specs.declared.cell.Cell.{Cell}
pub use Rattle.gh_base.specs.declared.held.Held.{Held}
pub use Rattle.gh_base.specs.declared.layout.Layout.{Layout}
pub use Rattle.gh_shade.specs.Sound.{HasPlace, IsReference}
