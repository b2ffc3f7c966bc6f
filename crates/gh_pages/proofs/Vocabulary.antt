-- The names that several files of proofs/ share.
pub use Rattle.std.proofs.lemmas.Bool.Decides.{eqb_tells, nat_tests}
pub use Rattle.gh_base.specs.Packing.{PackedWordsAreReadBack}
pub use Rattle.gh_pages.specs.FirstFit.{EndsWithNone, FindsFirstFit, Fits, FitsAt, GoesOnWith, IsFirstFit, Loads, told}
pub use Rattle.gh_pages.specs.Listing.{after_look, asks, asks_at, at_stage, Carving, first_store, fresh_body, fresh_head, given, given_at, goes, goes_at, is_free, is_last_page, next_store, opening}
pub use Rattle.gh_pages.specs.Vocabulary.{Body, CarveStage, Ended, Head, head_word, Look, page_of}
