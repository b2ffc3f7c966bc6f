-- The names that files share which speak of what a processor does among a collector: it polls, scans stacks, gives back and waits.
pub use Rattle.gh_base.specs.Packing.{phase_of}
pub use Rattle.gh_phase.specs.Views.{run_phase}
pub use Rattle.gh_phase.specs.declared.resume.ResumeStage.{ResumeStage}
pub use Rattle.gh_phase.specs.declared.resume.Resumed.{Resumed}
pub use Rattle.gh_phase.specs.declared.view.RunPhase.{RunPhase}
pub use Rattle.gh_wbuf.specs.declared.find_room.RoomStage.{RoomStage}
pub use Rattle.gh_wbuf.specs.declared.try_buffer.TryStage.{TryStage}
pub use Rattle.gh_shade.specs.declared.shade.ShadeStage.{ShadeStage}
pub use Rattle.gh_shade.specs.declared.shade.Shaded.{Shaded}
