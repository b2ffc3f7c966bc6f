-- The names that several files of specs/ share.
pub use Rattle.std.specs.List.{filter, flat_map, range_with_len}
pub use Rattle.gh_base.specs.Cells.{InRange, IsLayoutOf, length_of, seats_of, ShowsCells, Words}
pub use Rattle.gh_base.specs.Lists.{by, Legal, Setting, started, state_of, words_after}
pub use Rattle.gh_base.specs.Orders.{answered_by, AnsweredDeed, given_by}
pub use Rattle.gh_base.specs.Packing.{bit}
pub use Rattle.gh_base.specs.declared.cell.Ask.{Ask}
pub use Rattle.gh_base.specs.declared.layout.Layout.{Layout}
pub use Rattle.gh_base.specs.declared.limits.TheConstants.{MOST_GOROUTINES}
pub use Rattle.gh_base.specs.declared.machine.Entry.{Entry}
pub use Rattle.gh_base.specs.declared.plan.LayoutPlan.{LayoutPlan}
pub use Rattle.gh_base.specs.declared.operation.Op.{Op}
pub use Rattle.gh_base.specs.declared.shape.Shape.{Shape}
pub use Rattle.gh_base.specs.declared.value.Answer.{Answer}
pub use Rattle.gh_base.specs.declared.value.Name.{Name}
pub use Rattle.gh_coord.specs.Listing.{Coordinating}
pub use Rattle.gh_coord.specs.Stopping.{acks_of}
pub use Rattle.gh_coord.specs.declared.coord.CoordStage.{CoordStage}
pub use Rattle.gh_coord.specs.declared.cycles.Cycle.{Cycle}
pub use Rattle.gh_interp.specs.Working.{work_of}
pub use Rattle.gh_lines.specs.Text.{answers_by, Outcome, SweptCycle}
pub use Rattle.gh_lists.specs.Order.{acted_at, acted_in, Answered, before_step, begun_in, ended_in, ever_of, goroutine_is_over, goroutine_of, has_left, in_range, order_of}
pub use Rattle.gh_lists.specs.Processors.{arena_of, has_more, is_of, IsFullFor, may_begin, may_leave}
pub use Rattle.gh_lists.specs.declared.handshake.Actor.{Actor}
pub use Rattle.gh_lists.specs.declared.handshake.Actor.TheVariants.{Leads, Marks, Runs}
pub use Rattle.gh_model.specs.Answers.{AllAnswer, ever_after_all}
pub use Rattle.gh_model.specs.Ever.{answer_of, Ever, ever_after, field_count, opening_ever, Reach, shape_of, with_end}
pub use Rattle.gh_mutator.specs.Deeds.{acted, answer_at, deeds, has_point, meaning, processor_kind}
pub use Rattle.gh_mutator.specs.Listing.{Act, acts, gives, gives_at, is_busy_at, op_at, takes}
pub use Rattle.gh_mutator.specs.Processing.{Processor}
pub use Rattle.gh_mutator.specs.Processor.{made_by}
pub use Rattle.gh_mutator.specs.Serving.{has_left_at, is_last, is_leaving, is_point, is_serving, is_statement, statement_answer}
pub use Rattle.gh_mutator.specs.declared.task.Task.{Task}
pub use Rattle.gh_script.specs.Program.{Goroutine, Program, statement_as_op, statement_at, statements_in, statements_of, WellFormed}
pub use Rattle.gh_world.specs.declared.event.Event.{Event}
pub use Rattle.gh_world.specs.declared.progress.Progress.{Progress}
pub use Rattle.gh_world.specs.declared.runner.Runner.{Runner}
pub use Rattle.gh_world.specs.declared.turns.Next.{Next}
