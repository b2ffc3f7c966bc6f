-- The names that several files of proofs/ share.
pub use Rattle.std.proofs.Math.Nat.{mod-eq_of_lt, mod-lt, mul-le-mul_right}
pub use Rattle.std.proofs.lemmas.Bool.Decides.{eqb_tells, nat_tests}
pub use Rattle.gh_cache.specs.Listing.{alloc_word, asks, at_stage, given, given_at, goes, goes_at, is_clear, opening, passed, Searching, slot_at}
pub use Rattle.gh_cache.specs.Sound.{FitsArena}
pub use Rattle.gh_cache.specs.Vocabulary.{Cached, Ended, Layout, Look, pages_of, slot_words_of, slots_of, SlotStage}
pub use Rattle.gh_class.specs.Classes.{IsSizeClass, slot_of}
