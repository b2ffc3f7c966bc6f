-- The names that several files of proofs/ share.
pub use Rattle.gh_stack.specs.Listing.{after_shade, asks, asks_at, first_reference, gives, goes, is_busy, opening, shade_stage_from, StackScan, wish_of}
pub use Rattle.gh_stack.specs.Vocabulary.{Ended, Shade, StackStage, Store, Value}
