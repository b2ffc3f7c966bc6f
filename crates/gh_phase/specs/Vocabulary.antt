-- The names that several files of specs/ share.
pub use Rattle.gh_base.specs.Lists.{Setting, state_of, words_after}
pub use Rattle.gh_base.specs.Packing.{phase_of, phase_word}
pub use Rattle.gh_base.specs.declared.cell.Ask.{Ask}
pub use Rattle.gh_base.specs.declared.cell.Ask.TheVariants.{Add, And, Load, Or, Store, Swap}
pub use Rattle.gh_base.specs.declared.cell.Cell.TheVariants.{Ack, Begun, Gen, Phase, Touch}
pub use Rattle.gh_base.specs.declared.layout.Layout.{Layout}
pub use Rattle.gh_base.specs.declared.pack.Phase.{Phase as PhaseKind}
pub use Rattle.gh_base.specs.declared.pack.TheConstants.{GONE}
pub use Rattle.gh_phase.specs.declared.resume.Resume.{Resume}
pub use Rattle.gh_phase.specs.declared.resume.ResumeStage.{ResumeStage}
pub use Rattle.gh_phase.specs.declared.resume.ResumeStage.TheVariants.{Acknowledge, Ended, LoadBegun, LoadGeneration, LoadPhase}
pub use Rattle.gh_phase.specs.declared.resume.Resumed.{Resumed}
pub use Rattle.gh_phase.specs.declared.view.RunPhase.{RunPhase}
pub use Rattle.gh_phase.specs.declared.view.RunPhase.TheVariants.{Finished, Mark, Off}
pub use Rattle.gh_phase.specs.declared.view.View.{View}
