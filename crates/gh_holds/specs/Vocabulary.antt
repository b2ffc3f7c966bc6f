-- The names that several files of specs/ share.
pub use Rattle.gh_base.specs.Rows.{page_words}
pub use Rattle.gh_base.specs.declared.cell.Cell.{Cell}
pub use Rattle.gh_base.specs.declared.limits.TheConstants.{MOST_STATEMENTS}
pub use Rattle.gh_base.specs.declared.pack.TheConstants.{END}
pub use Rattle.gh_coord.specs.declared.close.CloseStage.{CloseStage}
pub use Rattle.gh_coord.specs.declared.coord.CoordStage.{CoordStage}
pub use Rattle.gh_coord.specs.declared.coord.CoordStage.TheVariants.{Check, Close, Count, Done, LoadAck, LoadWant, MarkOn, Open, Stop, StopAgain, Sweep, Tell, Watch}
pub use Rattle.gh_coord.specs.declared.tell.TellStage.{TellStage}
pub use Rattle.gh_heap.specs.Objects.{Holds, points, size_for}
pub use Rattle.gh_lists.specs.Handshake.{EveryListKeepsIt, EveryStepKeepsIt, first_words, Setup, those}
pub use Rattle.gh_lists.specs.Lists.{EveryListOpensFew, Given, IsEnding, IsTelling, setup_for}
pub use Rattle.gh_lists.specs.Marking.{EndsClean, IsInLimits, IsStateOf}
pub use Rattle.gh_lists.specs.Processors.{arena_of, at_seat, StandsFor, StandsForThese}
pub use Rattle.gh_lists.specs.Wants.{EveryListCountsWants, total}
pub use Rattle.gh_marked.specs.HoldVocabulary.{alloc_at, alloc_words, Arena, arena, Coordinating, CycleEnd, EndsCycle, ever, FullOnlyThere, generation_of, IsLed, IsMade, IsPlacedAt, IsStartOf, mark_words, marks_at, Name, Processor, Words, words}
unfoldable pub use Rattle.gh_marked.specs.HoldVocabulary.{row_bit}
pub use Rattle.gh_marked.specs.Known.{Known, ListsKnown}
pub use Rattle.gh_marked.specs.LemmaVocabulary.{birth_words, Entry, Good, Heap, IsHeapOf, IsOf, Op, Placed, processor_at, view}
pub use Rattle.gh_marked.specs.State.{HasState, IsInCycle, IsMarking, IsUnderWay}
pub use Rattle.gh_marked.specs.Vocabulary.{Ever, Legal, Reach}
pub use Rattle.gh_mutator_heap.specs.Facts.{ShapesAreGood}
pub use Rattle.gh_sweep.specs.Shared.{freed_at, in_all, kept_at, live_at, placed}
