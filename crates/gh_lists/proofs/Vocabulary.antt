-- The names that several files of proofs/ share.
pub use Rattle.gh_base.specs.Cells.{put}
pub use Rattle.gh_coord.specs.Events.{by_event}
pub use Rattle.gh_coord.specs.Handshake.{gone_to, IsFoundGone, LeadsHandshake}
pub use Rattle.gh_coord.specs.Listing.{after_check, after_close, after_count, after_open, after_tell, at_stage}
pub use Rattle.gh_coord.specs.declared.close.CloseStage.{CloseStage}
pub use Rattle.gh_coord.specs.declared.coord.CoordStage.TheVariants.{Check, Count, Done, MarkOn, StopAgain, Sweep, Watch}
pub use Rattle.gh_coord.specs.declared.open.OpenStage.{OpenStage}
pub use Rattle.gh_coord.specs.declared.tell.TellStage.{TellStage}
pub use Rattle.gh_lists.specs.Changes.{begins, Change, ends, Rises, same, Spares, tells}
pub use Rattle.gh_lists.specs.Counting.{opened_in_stored, rises}
pub use Rattle.gh_lists.specs.Frames.{CycleWords, leaves, LeavesCycleWords, numbers_of}
pub use Rattle.gh_lists.specs.Handshake.{actor_takes, asks, IsExact, KeepsIt, place_of, Setup, Sound, start, those, WaitsWithNone}
pub use Rattle.gh_lists.specs.Lists.{IsTelling, setup_for}
pub use Rattle.gh_lists.specs.Numbers.{ahead_at, asked_after, asked_in, asks_for_one, CountsCycles, generation_after, IsFew, KeepsCycles, opened_after, opened_in}
pub use Rattle.gh_lists.specs.Parts.{At, Own, own_counts, to_checked, to_counted}
pub use Rattle.gh_lists.specs.Processors.{arena_of, asked_by, asks_collector}
pub use Rattle.gh_lists.specs.Quiet.{all_quiet, count_quiet, leaves_all, Quiet, stop_quiet, watch_quiet, worker_quiet}
pub use Rattle.gh_lists.specs.Seats.{IsSeated, other, seated}
pub use Rattle.gh_lists.specs.Steps.{at, at as state, it, words}
pub use Rattle.gh_lists.specs.Vocabulary.{acks_of, Actor, Acts, Ask, asks_at, Begins, Begun, bit, by, Cell, cell_of, Checked, Close, Coordinating, CoordStage, Counted, effect, END, Ended, Entry, FinishedStays, goes_at, GONE, GoneStay, HandshakePlace, is_busy, IsAwake, IsCalm, IsCurrent, IsParked, IsWritten, Kind, last_phase, Layout, Leads, Legal, Load, LoadAck, LoadWant, Op, Open, Opened, Part, part_of, Party, party_of, phase_of, phase_word, Processor, processor_kind, ProcessorInHandshake, ProcessorWritesItsOwn, RunPhase, same_cell, Shakes, SoundAt, Stage, stage_of, started, state_of, Stop, Stopped, Store, Tell, Words, WorkersWriteTheirOwn, WritesOf}
pub use Rattle.gh_lists.specs.Waits.{StacksAreNumbered, WorkersRest}
pub use Rattle.gh_lists.specs.Wants.{AreFew, BeginsFew, CountsWants, IsIdle, IsToOpen, last_at, MayAsk, total}
pub use Rattle.gh_lists.specs.Writing.{IsNumberOf, leaves_numbers, numbers_stack, NumbersStack}
pub use Rattle.gh_mutator_writes.specs.Writing.{IsWanting}
pub use Rattle.gh_phase.specs.Handshake.{Awake, first_lead, first_party, Gone, is_stop, IsHandshake, last_of, Lead, PlaceBegins, PlaceGoes}
pub use Rattle.gh_worker.specs.Handshake.{IsLeaving, IsMarking, WorkersKeepHandshake}
pub use Rattle.gh_worker.specs.Writing.{CalmWorkersMarkNothing}
