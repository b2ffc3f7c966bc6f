-- The names that several files of proofs/ share.
pub use Rattle.std.proofs.lemmas.Bool.Decides.{nat_tests}
pub use Rattle.gh_base.specs.Footprints.{Writes}
pub use Rattle.gh_base.specs.Packing.{FitsPage, PackedWordsAreReadBack}
pub use Rattle.gh_base.specs.declared.pack.PageWord.TheVariants.{Body, Free}
pub use Rattle.gh_coord.specs.Events.{by_event, Event, led, MayCome}
pub use Rattle.gh_coord.specs.Handshake.{cycle_before, FindsGone, FitsNumbers, generation_before, lead_at, lead_of, LeadsHandshake, Marks, post_at, Sound, SoundAt, StopsFor}
pub use Rattle.gh_coord.specs.Listing.{after_ack, after_check, after_close, after_count, after_stop, after_stop_again, after_sweep, after_want, after_watch, asks, asks_at, at_stage, Coordinating, counted, goes, goes_at, is_busy, sweep_at, sweep_in}
pub use Rattle.gh_coord.specs.PartsRoutines.{PartsAreRoutines, TheCoordinatorIsARoutine}
pub use Rattle.gh_coord.specs.Sound.{SoundCoordinating, SoundStage, writes}
pub use Rattle.gh_coord.specs.Vocabulary.{All, Ask, buffer_of, Cell, Check, Close, CloseStage, CoordStage, Count, Done, Footprint, Head, Layout, Load, LoadAck, LoadWant, Lost, MarkOn, NotYet, Open, page_of, PageWord, phase_word, Stop, StopAgain, StopStage, Store, Sweep, SweepEnd, Swept, Tell, Watch}
pub use Rattle.gh_coord.specs.declared.sweep_all.SweepAllStage.{SweepAllStage}
pub use Rattle.gh_phase.specs.Handshake.{begins, Calm, ends, IsAcked, IsQuietInHandshake, last_of, LeadGoes, Looks, next_cycle, next_generation, next_stop, Post, quiet, sees, stop_before, stop_word, Stopped, stops}
pub use Rattle.gh_phase.specs.declared.view.RunPhase.{RunPhase}
