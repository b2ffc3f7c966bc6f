-- The names that several files of specs/ share.
pub use Rattle.gh_base.specs.Cells.{ack_row, buffers_of, InRange}
pub use Rattle.gh_base.specs.Footprints.{Footprint}
pub use Rattle.gh_base.specs.Machines.{IsRoutine, Listing, Runs, steps_of}
pub use Rattle.gh_base.specs.Packing.{bit, buffer_of, page_of, phase_word, tally_of}
pub use Rattle.gh_base.specs.Routines.{told}
pub use Rattle.gh_base.specs.declared.cell.Ask.{Ask}
pub use Rattle.gh_base.specs.declared.cell.Ask.TheVariants.{Load, Store}
pub use Rattle.gh_base.specs.declared.cell.Cell.{Cell}
pub use Rattle.gh_base.specs.declared.cell.Cell.TheVariants.{Ack, Bank, Buffer, Gcur, Gen, Live, Page, Scanned, Tally, Touch, Trigger}
pub use Rattle.gh_base.specs.declared.layout.Layout.{Layout}
pub use Rattle.gh_base.specs.declared.pack.BufferWord.{BufferWord}
pub use Rattle.gh_base.specs.declared.pack.PageWord.{PageWord}
pub use Rattle.gh_base.specs.declared.pack.PageWord.TheVariants.{Head}
pub use Rattle.gh_base.specs.declared.pack.Phase.{Phase}
pub use Rattle.gh_base.specs.declared.pack.Phase.TheVariants.{Finished, Off}
pub use Rattle.gh_base.specs.declared.pack.PhaseWord.{PhaseWord}
pub use Rattle.gh_base.specs.declared.pack.TheConstants.{GONE}
pub use Rattle.gh_coord.specs.declared.close.CloseStage.{CloseStage}
pub use Rattle.gh_coord.specs.declared.coord.CoordStage.{CoordStage}
pub use Rattle.gh_coord.specs.declared.coord.CoordStage.TheVariants.{Check, Close, Count, Done, LoadAck, LoadWant, MarkOn, Open, Stop, StopAgain, Sweep, Tell, Watch}
pub use Rattle.gh_coord.specs.declared.count.Counted.{Counted}
pub use Rattle.gh_coord.specs.declared.cycles.Cycle.{Cycle}
pub use Rattle.gh_coord.specs.declared.open.OpenStage.{OpenStage}
pub use Rattle.gh_coord.specs.declared.stop.StopStage.{StopStage}
pub use Rattle.gh_coord.specs.declared.tell.TellStage.{TellStage}
pub use Rattle.gh_coord.specs.declared.watch.Watched.{Watched}
pub use Rattle.gh_coord.specs.declared.watch.Watched.TheVariants.{All, NotYet}
pub use Rattle.gh_pacer.specs.Pacing.{goal, roots, slack, trigger, work}
pub use Rattle.gh_pacer.specs.declared.pacing.TheConstants.{NEVER}
pub use Rattle.gh_sweep.specs.Listing.{gives, is_busy, Sweeping}
pub use Rattle.gh_sweep.specs.declared.sweep.SweepEnd.{SweepEnd}
pub use Rattle.gh_sweep.specs.declared.sweep.SweepEnd.TheVariants.{Lost, Swept}
