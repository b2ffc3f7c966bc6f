-- The names that files on a processor among a collector share while marking is on.
pub use Rattle.gh_alloc.specs.declared.sought.CachedSpan.{CachedSpan}
pub use Rattle.gh_base.specs.Steps.{cell_of, effect}
pub use Rattle.gh_base.specs.declared.cell.Ask.{Ask}
pub use Rattle.gh_base.specs.declared.held.Held.{Held}
pub use Rattle.gh_base.specs.declared.layout.Layout.{Layout}
pub use Rattle.gh_base.specs.declared.value.Value.{Value}
pub use Rattle.gh_heap.specs.Rights.{IsOf}
pub use Rattle.gh_marks.specs.Colours.{Cycle, Shared}
pub use Rattle.gh_marks.specs.Good.{Good}
pub use Rattle.gh_marks.specs.Knows.{KnowsObject, KnowsObjects}
pub use Rattle.gh_marks.specs.Moves.{Keeps, Others, ScanStack, Steps, landing, moved}
pub use Rattle.gh_marks.specs.Seats.{Hands, InHand, nothing}
pub use Rattle.gh_poll.specs.declared.give.GiveStage.{GiveStage}
pub use Rattle.gh_poll.specs.declared.leave.LeaveStage.{LeaveStage}
pub use Rattle.gh_poll.specs.declared.mark_stack.MarkStackStage.{MarkStackStage}
pub use Rattle.gh_poll.specs.declared.poll.Local.{Local}
pub use Rattle.gh_poll.specs.declared.poll.PollStage.{PollStage}
pub use Rattle.gh_poll.specs.declared.wait.WaitStage.{WaitStage}
pub use Rattle.gh_phase.specs.declared.view.View.{View}
pub use Rattle.gh_scan.specs.Quiet.{MarkingIsQuiet}
pub use Rattle.gh_stack.specs.declared.scan_stack.StackStage.{StackStage}
