-- The names that several files of specs/ share.
pub use Rattle.gh_base.specs.Cells.{InRange, seats_of}
pub use Rattle.gh_base.specs.Machines.{Listing, steps_of}
pub use Rattle.gh_base.specs.Packing.{body_word, FitsHead, head_word, page_of}
pub use Rattle.gh_base.specs.declared.cell.Ask.{Ask}
pub use Rattle.gh_base.specs.declared.cell.Ask.TheVariants.{Load, Store}
pub use Rattle.gh_base.specs.declared.cell.Cell.TheVariants.{Page, Touch}
pub use Rattle.gh_base.specs.declared.layout.Layout.{Layout}
pub use Rattle.gh_base.specs.declared.pack.PageWord.{PageWord}
pub use Rattle.gh_pages.specs.declared.carve.Carve.{Carve}
pub use Rattle.gh_pages.specs.declared.carve.CarveStage.{CarveStage}
pub use Rattle.gh_pages.specs.declared.carve.CarveStage.TheVariants.{Body, Ended, Head, Look}
pub use Rattle.gh_pages.specs.declared.carve.Span.{Span}
