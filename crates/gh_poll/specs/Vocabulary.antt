-- The names that several files of specs/ share.
pub use Rattle.gh_alloc.specs.declared.sought.CachedSpan.{CachedSpan}
pub use Rattle.gh_assist.specs.Listing.{Assisting}
pub use Rattle.gh_base.specs.Footprints.{Footprint}
pub use Rattle.gh_base.specs.Holding.{IsHeld}
pub use Rattle.gh_base.specs.Machines.{Listing, Runs, steps_of}
pub use Rattle.gh_base.specs.Packing.{head_word, phase_of}
pub use Rattle.gh_base.specs.declared.cell.Ask.{Ask}
pub use Rattle.gh_base.specs.declared.cell.Ask.TheVariants.{Load, Or, Store, Swap}
pub use Rattle.gh_base.specs.declared.cell.Cell.{Cell}
pub use Rattle.gh_base.specs.declared.held.Held.{Held}
pub use Rattle.gh_base.specs.declared.layout.Layout.{Layout}
pub use Rattle.gh_base.specs.declared.limits.TheConstants.{MOST_GOROUTINES, REGISTERS}
pub use Rattle.gh_base.specs.declared.pack.TheConstants.{END, ENTRIES, GONE}
pub use Rattle.gh_base.specs.declared.value.Value.{Value}
pub use Rattle.gh_class.specs.Classes.{pages_of, slots_of, span_index}
pub use Rattle.gh_class.specs.declared.class.TheConstants.{SPAN_CLASSES}
pub use Rattle.gh_phase.specs.Handshake.{Acts, Awake, Gives, Gone, IsQuietInHandshake, KeepsHandshake, Leaves, Party, PlaceBegins, Stage}
pub use Rattle.gh_phase.specs.Views.{first_view, FitsView, run_phase}
pub use Rattle.gh_phase.specs.declared.resume.Resumed.{Resumed}
pub use Rattle.gh_phase.specs.declared.view.RunPhase.{RunPhase}
pub use Rattle.gh_phase.specs.declared.view.RunPhase.TheVariants.{Mark}
pub use Rattle.gh_phase.specs.declared.view.View.{View}
pub use Rattle.gh_poll.specs.declared.give.Give.{Give}
pub use Rattle.gh_poll.specs.declared.give.GiveStage.{GiveStage}
pub use Rattle.gh_poll.specs.declared.give.GiveStage.TheVariants.{GiveBuffer, GiveSpan, Lock, Unlock}
pub use Rattle.gh_poll.specs.declared.leave.LeaveStage.{LeaveStage}
pub use Rattle.gh_poll.specs.declared.leave.LeaveStage.TheVariants.{Giving, Leave, Left}
pub use Rattle.gh_poll.specs.declared.mark_stack.MarkStack.{MarkStack}
pub use Rattle.gh_poll.specs.declared.mark_stack.MarkStackStage.{MarkStackStage}
pub use Rattle.gh_poll.specs.declared.mark_stack.MarkStackStage.TheVariants.{FindRoom, Shading}
pub use Rattle.gh_poll.specs.declared.poll.Local.{Local}
pub use Rattle.gh_poll.specs.declared.poll.PollStage.{PollStage}
pub use Rattle.gh_poll.specs.declared.poll.PollStage.TheVariants.{Ended, LoadPhase, Marking, Resuming}
pub use Rattle.gh_poll.specs.declared.wait.Wait.{Wait}
pub use Rattle.gh_poll.specs.declared.wait.WaitStage.{WaitStage}
pub use Rattle.gh_shade.specs.declared.shade.Shaded.{Shaded}
pub use Rattle.gh_stack.specs.declared.scan_stack.StackStage.{StackStage}
