-- The names that the files here share.
pub use Rattle.gh_alloc.specs.FindFacts.{IsCached}
pub use Rattle.gh_base.specs.Cells.{InRange, seats_of}
pub use Rattle.gh_base.specs.Holding.{IsHeld}
pub use Rattle.gh_base.specs.Packing.{phase_of}
pub use Rattle.gh_base.specs.Steps.{effect}
pub use Rattle.gh_base.specs.declared.held.Held.{Held}
pub use Rattle.gh_heap.specs.Moves.{KeepsObjects, Others, landing}
pub use Rattle.gh_mutator_heap.specs.PollHeap.{CachesAll, CachesFrom, Has, HasLoaded, KeepsGhosts, KnowsSpans, PollFacts, PollStageFacts, ResumeFacts, KnowsAtAnyTime, lists, no_page, poll_held_at, poll_locked_at}
pub use Rattle.gh_mutator_heap.specs.PollHeapLaws.{IsBetweenOperations, Polls, PollsByRights}
pub use Rattle.gh_mutator_heap.specs.PollWithin.{ScansWithin}
pub use Rattle.gh_mutator.specs.Vocabulary.{CachedSpan, Leaving, Polling, SpanClass, Waiting, cell_of}
pub use Rattle.gh_mutator_heap.specs.Vocabulary.{Arena, Good, Shared, Steps, View, view}
pub use Rattle.gh_class.specs.declared.class.TheConstants.{SPAN_CLASSES}
pub use Rattle.gh_base.specs.declared.pack.SpanHead.{SpanHead}
pub use Rattle.gh_class.specs.Classes.{pages_of}
pub use Rattle.gh_poll.specs.declared.give.GiveStage.{GiveStage}
pub use Rattle.gh_poll.specs.declared.poll.PollStage.{PollStage}
pub use Rattle.gh_phase.specs.Shakes.{IsParked}
pub use Rattle.gh_phase.specs.Views.{run_phase}
pub use Rattle.gh_phase.specs.declared.resume.ResumeStage.{ResumeStage}
pub use Rattle.gh_phase.specs.declared.resume.Resumed.{Resumed}
pub use Rattle.gh_phase.specs.declared.view.RunPhase.{RunPhase}
pub use Rattle.gh_phase.specs.declared.view.View.{View as PhaseView}
pub use Rattle.gh_wbuf.specs.Sound.{SoundRoomFinding}
