-- The names that several files of proofs/ share.
pub use Rattle.gh_assist.specs.Listing.{Assisting, at_stage, draws_if_owed}
pub use Rattle.gh_assist.specs.Sound.{IsSound, SoundAssisting, SoundParts, SoundStage}
pub use Rattle.gh_assist.specs.Vocabulary.{AssistStage, Held, Layout}
pub use Rattle.gh_assist.specs.Within.{AssistsAreWithin, AssistWithin, HasRoomForEntry, RoomWithin, ScanStageWithin, ScanWithin, ShadeWithin, StageWithin, TakenIsReference, TakeStageWithin, TakeWithin, TakingAndScanningAreWithin}
