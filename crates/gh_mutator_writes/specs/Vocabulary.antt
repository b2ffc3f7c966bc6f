-- The names that several files of specs/ share.
pub use Rattle.gh_base.specs.Cells.{Words}
pub use Rattle.gh_base.specs.declared.cell.Cell.{Cell}
pub use Rattle.gh_mutator.specs.Listing.{asks, asks_at, gives_at, is_busy_at, takes, takes_at}
pub use Rattle.gh_mutator.specs.MarkVocabulary.{effect, processor_kind}
pub use Rattle.gh_mutator.specs.Mutating.{begins, gives, goes, listing, marks_after, Mutating}
pub use Rattle.gh_mutator.specs.New.{after_assist, after_place, after_search, after_wait, answer_search, wanted_of}
pub use Rattle.gh_mutator.specs.Processing.{Processor}
pub use Rattle.gh_mutator.specs.Processor.{at_poll, opening_processor}
pub use Rattle.gh_mutator.specs.Running.{IsAssisting, IsSound}
pub use Rattle.gh_mutator.specs.Sweeping.{IsSearching, IsSweeping}
pub use Rattle.gh_mutator.specs.Vocabulary.{Ask, Layout, Op, Polling, Shape}
pub use Rattle.gh_mutator.specs.declared.global.GlobalStage.{GlobalStage}
pub use Rattle.gh_mutator.specs.declared.new.NewStage.{NewStage}
pub use Rattle.gh_mutator.specs.declared.new.NewStage.TheVariants.{Assist, Place, Wait}
pub use Rattle.gh_mutator.specs.declared.store.StoreStage.{StoreStage}
pub use Rattle.gh_mutator.specs.declared.task.Task.{Task}
pub use Rattle.gh_poll.specs.Local.{cached_at, marking_at, stacks_with}
pub use Rattle.gh_poll.specs.declared.leave.LeaveStage.{LeaveStage}
pub use Rattle.gh_poll.specs.declared.poll.PollStage.{PollStage}
pub use Rattle.gh_poll.specs.declared.wait.WaitStage.{WaitStage}
