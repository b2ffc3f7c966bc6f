-- The names that several files of proofs/ share.
pub use Rattle.std.proofs.lemmas.Bool.Decides.{nat_tests}
pub use Rattle.gh_base.specs.Cells.{put, Words}
pub use Rattle.gh_base.specs.Lists.{Begins, Legal, MayFollow, started}
pub use Rattle.gh_base.specs.Steps.{cell_of, effect}
pub use Rattle.gh_base.specs.declared.machine.Entry.{Entry}
pub use Rattle.gh_base.specs.declared.pack.PhaseWord.{PhaseWord}
pub use Rattle.gh_phase.specs.Handshake.{Acts, Awake, begins, behind_ack, Calm, ends, finishes, first_lead, FromAwake, Gives, goes, Gone, HandshakePlace, is_stop, IsAcked, IsHandshake, IsQuietInHandshake, last_of, Lead, LeadGoes, Leads, Leaves, Looks, next_cycle, next_generation, next_stop, Party, PlaceBegins, PlaceGoes, Post, quiet, resume_asks, resume_goes, resume_view, Resumes, run_word, sees, Stage, StageGoes, stop_before, stop_word, Stopped, stops}
pub use Rattle.gh_phase.specs.Shakes.{FinishedStays, GoneStay, IsAwake, IsParked, last_phase, NobodyMoves, phase_stored, Shakes}
pub use Rattle.gh_phase.specs.Vocabulary.{Ack, Acknowledge, Ask, Begun, Ended, Finished, Gen, GONE, Load, LoadBegun, LoadGeneration, LoadPhase, Off, Phase, phase_of, phase_word, ResumeStage, RunPhase, Setting, state_of, Store, View, words_after}
