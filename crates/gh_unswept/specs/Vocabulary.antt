-- The names that several files of specs/ share.
pub use Rattle.gh_base.specs.Machines.{steps_of}
pub use Rattle.gh_base.specs.Packing.{head_word, page_of}
pub use Rattle.gh_base.specs.declared.cell.Ask.{Ask}
pub use Rattle.gh_base.specs.declared.cell.Ask.TheVariants.{Load, Store}
pub use Rattle.gh_base.specs.declared.cell.Cell.TheVariants.{Page}
pub use Rattle.gh_base.specs.declared.layout.Layout.{Layout}
pub use Rattle.gh_base.specs.declared.pack.PageWord.TheVariants.{Head}
pub use Rattle.gh_base.specs.declared.pack.SpanHead.{SpanHead}
pub use Rattle.gh_central.specs.SweptPass.{owned_by, pages_gone}
pub use Rattle.gh_sweep.specs.Listing.{gives, once_swept, Sweeping}
pub use Rattle.gh_sweep.specs.declared.sweep.SweepEnd.{SweepEnd}
pub use Rattle.gh_sweep.specs.declared.sweep.SweepEnd.TheVariants.{Lost, Swept}
pub use Rattle.gh_sweep.specs.declared.sweep.SweptSpan.{SweptSpan}
