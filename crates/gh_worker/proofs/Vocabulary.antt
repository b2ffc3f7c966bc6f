-- The names that several files of proofs/ share.
pub use Rattle.gh_base.specs.Cells.{InRange, put}
pub use Rattle.gh_base.specs.Footprints.{FootprintsHold}
pub use Rattle.gh_base.specs.Packing.{FitsPage}
pub use Rattle.gh_base.specs.declared.pack.PageWord.{PageWord}
pub use Rattle.gh_base.specs.declared.pack.Phase.{Phase}
pub use Rattle.gh_credit.specs.declared.earn.EarnStage.{EarnStage}
pub use Rattle.gh_marks.specs.Colours.{IsClean}
pub use Rattle.gh_marks.specs.Good.{Good}
pub use Rattle.gh_marks.specs.Knows.{KnowsObject, KnowsObjects}
pub use Rattle.gh_marks.specs.Moves.{ClaimGlobal, IsQuietInMarking, Keeps, landing, landing_on, Lands, lands_by, lands_still, moved, Others, PassGlobals, Quiet, ReadGlobal, ScanGlobal, Steps, Went}
pub use Rattle.gh_marks.specs.Seats.{Claim}
pub use Rattle.gh_phase.specs.Handshake.{FromAwake, IsQuietInHandshake, StageGoes}
pub use Rattle.gh_phase.specs.declared.resume.ResumeStage.{ResumeStage}
pub use Rattle.gh_phase.specs.declared.resume.Resumed.{Resumed}
pub use Rattle.gh_shade.specs.declared.shade.ShadeStage.TheVariants.{Ended, Enter, SetMark, WaitForRoom}
pub use Rattle.gh_sweep.specs.declared.sweep.SweepEnd.{SweepEnd}
pub use Rattle.gh_sweep.specs.declared.sweep.SweepStage.{SweepStage}
pub use Rattle.gh_worker.specs.Choices.{by_stop, by_work}
pub use Rattle.gh_worker.specs.Handshake.{FindsMarking, GoesOnWithNone, IsLeaving, IsMarking, party_at, party_of, Sound, SoundAt, stage_of, stands_at, WorkersKeepHandshake}
pub use Rattle.gh_worker.specs.Listing.{after_give, after_global, after_page, after_resume, after_room, after_scan, after_shade, after_sweep, after_take, asks, asks_at, at_stage, by_phase, counted, done_with, gives_back, global_held, goes_at, handed_over, held_at, is_busy, loads_phase_or_page, page_done, stops_at, sweep_at, sweep_in, Working}
pub use Rattle.gh_worker.specs.MarkFacts.{claim_at, Facts, HasInHand, in_hand, StageFacts, WorksByMoves}
pub use Rattle.gh_worker.specs.Places.{IsAtWork, Looks, Polls, RestsAtStop, WorkersKeepPlaces}
pub use Rattle.gh_worker.specs.Sound.{marks, SoundStage, SoundWorking, writes}
pub use Rattle.gh_worker.specs.Vocabulary.{Add, Ask, Awake, Cell, cell_of, ClaimOf, Cycle, Done, Earning, EarningAtStop, effect, FindRoom, Footprint, GiveBack, Gone, Hands, Held, InHand, IsMarked, Layout, Leave, Load, LoadPage, LoadPhase, NoClaim, nothing, page_of, phase_of, ReadOf, Resumes, Resuming, run_phase, Scanning, seats_of, Shaded, Shading, Shared, Store, Sweeping, Taking, WorkerStage, Writes}
pub use Rattle.gh_worker.specs.Works.{after, CountsWords, scanned, shading_word, words_done}
pub use Rattle.gh_worker.specs.Writing.{CalmWorkersMarkNothing, IsOutsideMarking, WorkersWriteTheirOwn, WritesItsOwn}
