-- The names that several files of proofs/ share.
pub use Rattle.std.proofs.lemmas.Bool.Decides.{nat_tests}
pub use Rattle.gh_base.specs.Cells.{put, Words}
pub use Rattle.gh_base.specs.Holding.{AreBuffersOf, AreCounted, Buffers, BuffersAreHeld, Facts, holder_in, HoldsBuffer, May, Move, Moves, OwnStep, StepsAreMoves}
pub use Rattle.gh_base.specs.Routines.{IsFolded, Listing}
pub use Rattle.gh_base.specs.Steps.{cell_of, effect}
pub use Rattle.gh_marks.specs.Colours.{Buffered, buffers_as_held, Cycle, Shared}
pub use Rattle.gh_marks.specs.Good.{Good}
pub use Rattle.gh_marks.specs.Moves.{GiveBuffer, HasBuffer, Keeps, landing, lands_by, lands_still, MayTakeEntry, moved, Steps, TakeBuffer, TakeEntry}
pub use Rattle.gh_marks.specs.Seats.{Hands, InHand}
pub use Rattle.gh_wbuf.specs.EntryTaking.{after_try, at_stage, begin, entry_of, EntryTaking, has_next, held_at, less, opening, transitions, try_at}
pub use Rattle.gh_wbuf.specs.Facts.{BuffersPassByMoves, FactsBegin, GiveFacts, holding, RoomFacts, TakeComes, TakesByMoves, TryFacts}
pub use Rattle.gh_wbuf.specs.Knowing.{BuffersAreKept, GiveKnows, IsFreeAt, RoomKnows, RoomStageKnows, RoomTryKnows, TakeKnows, TakeStageKnows, TryKnows}
pub use Rattle.gh_wbuf.specs.Tries.{EndsAt, Has, IsOpen, swap_step, Took, TriesBuffer}
pub use Rattle.gh_wbuf.specs.Trying.{asks, asks_at, claimed, claims, given, given_at, gives, goes, goes_at, is_busy, is_open, serves, SoundTryStage, taken, Trying}
pub use Rattle.gh_wbuf.specs.Vocabulary.{Buffer, buffer_of, buffer_word, buffers_of, Claim, ENTRIES, Entry, GiveStage, GoesOn, Held, KeepsItsBuffer, Layout, Load, Look, Room, RoomStage, Swap, TakeStage, told, Touch, TryStage, Wish}
pub use Rattle.gh_wbuf.specs.declared.try_buffer.TryStage.TheVariants.{Ended, GiveBack}
