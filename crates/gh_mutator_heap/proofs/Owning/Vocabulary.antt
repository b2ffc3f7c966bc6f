-- The names that the files of this folder share, beside those of specs/Vocabulary.
pub use Rattle.gh_mutator.specs.Deeds.{acted}
pub use Rattle.gh_mutator_heap.specs.Facts.{answered_at, CountsAlone, Does, FactsAt, ProcessorFacts, for_whom, FullAt, GlobalFacts, HasAt, IsPlain, KnowsAt, KnowsCounts, LoadFacts, Loads, Makes, MayBegin, NewFacts, OwnStepAt, RegisterFacts, rest, Searches, ShapesAreGood, StoreFacts, Stores, Takes, Through, Wants}
pub use Rattle.gh_mutator.specs.Fields.{has_field, is_pointer_by, value_of, word_of_value}
pub use Rattle.gh_mutator.specs.Listing.{Act, acting, asks, begins, follows}
pub use Rattle.gh_poll.specs.Local.{cache_with, cached_in, register_at}
pub use Rattle.gh_mutator.specs.New.{makes, op_of, own_span, searches}
pub use Rattle.gh_mutator_heap.specs.PollHeap.{CachesAll, KnowsAtAnyTime, KnowsSpans, lists, PollRegistersFit, Rests, SeatFacts}
pub use Rattle.gh_mutator.specs.Processor.{at_task, cache_span, cached_for, register_of, set_register}
pub use Rattle.gh_mutator.specs.Step.{answered, ends, goes_on}
