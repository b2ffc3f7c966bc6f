-- The names that several files of specs/ share.
pub use Rattle.gh_base.specs.Cells.{seats_of, Words}
pub use Rattle.gh_base.specs.Footprints.{Footprint, row_of, Writes}
pub use Rattle.gh_base.specs.Machines.{IsRoutine, Listing, Runs, steps_of}
pub use Rattle.gh_base.specs.Packing.{page_of, phase_of}
pub use Rattle.gh_base.specs.Steps.{cell_of, effect}
pub use Rattle.gh_base.specs.declared.cell.Ask.{Ask}
pub use Rattle.gh_base.specs.declared.cell.Ask.TheVariants.{Add, Add as Adds, And, Load, Or, Store, Swap}
pub use Rattle.gh_base.specs.declared.cell.Cell.{Cell}
pub use Rattle.gh_base.specs.declared.cell.Cell.TheVariants.{Gcur}
pub use Rattle.gh_base.specs.declared.held.Held.{Held}
pub use Rattle.gh_base.specs.declared.layout.Layout.{Layout}
pub use Rattle.gh_base.specs.declared.pack.Phase.TheVariants.{Off, Stop}
pub use Rattle.gh_marks.specs.Colours.{Cycle, IsMarked, Shared}
pub use Rattle.gh_marks.specs.Seats.{ClaimOf, Hands, InHand, NoClaim, nothing, ReadOf}
pub use Rattle.gh_phase.specs.Handshake.{Awake, first_party, Gives, Gone, KeepsHandshake, Leaves, Party, Resumes, Stage}
pub use Rattle.gh_phase.specs.Views.{first_view, FitsView, run_phase}
pub use Rattle.gh_phase.specs.declared.view.RunPhase.TheVariants.{Finished, Mark}
pub use Rattle.gh_shade.specs.declared.shade.Shaded.{Shaded}
pub use Rattle.gh_sweep.specs.Listing.{Sweeping as SpanSweep}
pub use Rattle.gh_worker.specs.declared.worker.WorkerStage.{WorkerStage}
pub use Rattle.gh_worker.specs.declared.worker.WorkerStage.TheVariants.{Claim, Done, Earning, EarningAtStop, FindRoom, GiveBack, Leave, LoadCursor, LoadGlobal, LoadPage, LoadPhase, Resuming, Scanning, Shading, Sweeping, Taking}
