-- The names that several files of specs/ share.
pub use Rattle.gh_base.specs.Footprints.{Footprint}
pub use Rattle.gh_base.specs.Machines.{Listing}
pub use Rattle.gh_base.specs.declared.cell.Ask.{Ask}
pub use Rattle.gh_base.specs.declared.cell.Cell.TheVariants.{Bank, Touch}
pub use Rattle.gh_base.specs.declared.layout.Layout.{Layout}
