-- The names that several files of specs/ share.
pub use Rattle.gh_assist.specs.declared.assist.Assist.{Assist}
pub use Rattle.gh_assist.specs.declared.assist.AssistStage.{AssistStage}
pub use Rattle.gh_assist.specs.declared.assist.AssistStage.TheVariants.{Drawing, Ended, LoadSlack, LoadWork, Scanning, Taking}
pub use Rattle.gh_base.specs.Cells.{buffers_of, InRange, seats_of}
pub use Rattle.gh_base.specs.Holding.{FitsBuffers, IsHeld}
pub use Rattle.gh_base.specs.Machines.{Listing, Runs}
pub use Rattle.gh_base.specs.Steps.{cell_of}
pub use Rattle.gh_base.specs.declared.cell.Ask.{Ask}
pub use Rattle.gh_base.specs.declared.cell.Ask.TheVariants.{Load}
pub use Rattle.gh_base.specs.declared.cell.Cell.{Cell}
pub use Rattle.gh_base.specs.declared.held.Held.{Held}
pub use Rattle.gh_base.specs.declared.layout.Layout.{Layout}
pub use Rattle.gh_pacer.specs.Pacing.{debt}
