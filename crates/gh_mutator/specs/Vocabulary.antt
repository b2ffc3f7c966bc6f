-- The names that several files of specs/ share.
pub use Rattle.gh_alloc.specs.Find.{Finding}
pub use Rattle.gh_alloc.specs.Place.{Placing}
pub use Rattle.gh_alloc.specs.Search.{Seeking}
pub use Rattle.gh_alloc.specs.declared.find.FindStage.{FindStage}
pub use Rattle.gh_alloc.specs.declared.place.PlaceStage.{PlaceStage}
pub use Rattle.gh_alloc.specs.declared.sought.CachedSpan.{CachedSpan}
pub use Rattle.gh_alloc.specs.declared.sought.Found.{Found}
pub use Rattle.gh_alloc.specs.declared.sought.Found.TheVariants.{At, NoRoom}
pub use Rattle.gh_alloc.specs.declared.sought.Sought.{Sought}
pub use Rattle.gh_alloc.specs.declared.sought.Sought.TheVariants.{Large, Small}
pub use Rattle.gh_assist.specs.Listing.{Assisting}
pub use Rattle.gh_barrier.specs.Listing.{Writing as PointerWrite}
pub use Rattle.gh_barrier.specs.declared.pointer_cell.PointerCell.{PointerCell}
pub use Rattle.gh_base.specs.Routines.{EndsWithin, Listing, told}
pub use Rattle.gh_base.specs.Shapes.{shape_at, ShapesFit}
pub use Rattle.gh_base.specs.Steps.{cell_of}
pub use Rattle.gh_base.specs.declared.cell.Ask.{Ask}
pub use Rattle.gh_base.specs.declared.cell.Cell.{Cell}
pub use Rattle.gh_base.specs.declared.held.Held.{Held}
pub use Rattle.gh_base.specs.declared.layout.Layout.{Layout}
pub use Rattle.gh_base.specs.declared.limits.TheConstants.{MOST_GOROUTINES, MOST_STATEMENTS, REGISTERS}
pub use Rattle.gh_base.specs.declared.operation.Op.{Op}
pub use Rattle.gh_base.specs.declared.pack.TheConstants.{END}
pub use Rattle.gh_base.specs.declared.shape.Shape.{Shape}
pub use Rattle.gh_base.specs.declared.value.Answer.{Answer}
pub use Rattle.gh_base.specs.declared.value.Fault.{Fault, Fault as Cause}
pub use Rattle.gh_base.specs.declared.value.Name.{Name}
pub use Rattle.gh_base.specs.declared.value.Value.{Value}
pub use Rattle.gh_class.specs.Classes.{class_number, size_class_of, slot_of, slot_words, slots_of, span_index}
pub use Rattle.gh_class.specs.declared.class.SizeClass.{SizeClass}
pub use Rattle.gh_class.specs.declared.class.SpanClass.{SpanClass}
pub use Rattle.gh_heap.specs.Rights.{IsOf}
pub use Rattle.gh_mutator.specs.declared.global.Global.{Global}
pub use Rattle.gh_mutator.specs.declared.global.GlobalStage.{GlobalStage}
pub use Rattle.gh_mutator.specs.declared.load.Load.{Load}
pub use Rattle.gh_mutator.specs.declared.load.LoadStage.{LoadStage}
pub use Rattle.gh_mutator.specs.declared.new.NewStage.{NewStage}
pub use Rattle.gh_mutator.specs.declared.new.NewStage.TheVariants.{Assist, Place, Search, Wait, Want}
pub use Rattle.gh_mutator.specs.declared.new.Wanted.{Wanted}
pub use Rattle.gh_mutator.specs.declared.register.Register.{Register}
pub use Rattle.gh_mutator.specs.declared.register.Source.{Source}
pub use Rattle.gh_mutator.specs.declared.step.Step.{Step}
pub use Rattle.gh_mutator.specs.declared.step.Then.{Then}
pub use Rattle.gh_mutator.specs.declared.step.Then.TheVariants.{Ends, GoesOn}
pub use Rattle.gh_mutator.specs.declared.store.Store.{Store}
pub use Rattle.gh_mutator.specs.declared.store.StoreStage.{StoreStage}
pub use Rattle.gh_mutator.specs.declared.task.Task.{Task}
pub use Rattle.gh_mutator.specs.declared.task.Task.TheVariants.{End, Idle, Leave, Left, New, Poll}
pub use Rattle.gh_phase.specs.Handshake.{Acts, Awake, first_party, Gone, IsQuietInHandshake, Party, PlaceBegins, Stage, StageGoes}
pub use Rattle.gh_phase.specs.declared.view.RunPhase.TheVariants.{Mark}
pub use Rattle.gh_poll.specs.Barrier.{has_entries, held_then, with_held, written}
pub use Rattle.gh_poll.specs.Leave.{is_busy, Leaving, says_gone}
pub use Rattle.gh_poll.specs.Local.{cache_with, cached_at, first_local, is_mark, leaving, marking_at, passes as passes_by, register_at, with_cached, with_ended, with_nothing, with_payment, with_register_value, with_value_if_any}
pub use Rattle.gh_poll.specs.Poll.{goes, has_two, Polling, resting, resumed}
pub use Rattle.gh_poll.specs.Registers.{is_number_value, IsNear, IsRegister}
pub use Rattle.gh_poll.specs.Wait.{is_busy as waits_still, Waiting, waiting}
pub use Rattle.gh_poll.specs.declared.poll.Local.{Local}
pub use Rattle.gh_poll.specs.declared.poll.PollStage.{PollStage}
pub use Rattle.gh_poll.specs.declared.poll.PollStage.TheVariants.{Ended, FindRoom, Marking}
