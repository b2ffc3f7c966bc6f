-- The names that several files of proofs/ share.
pub use Rattle.std.proofs.lemmas.Bool.{cases_lt, eqb-false}
pub use Rattle.std.proofs.lemmas.List.Elements.{filter-append}
pub use Rattle.std.proofs.lemmas.List.Sums.{get_or-le-sum_by, sum_by-append, sum_by-cons}
pub use Rattle.std.specs.List.{filter, flat_map, range_with_len}
pub use Rattle.std.specs.Option.{option_to_list}
pub use Rattle.gh_base.specs.declared.operation.Op.{Op}
pub use Rattle.gh_base.specs.declared.shape.Shape.{Shape}
pub use Rattle.gh_generated.specs.Orders.{ever_left_by, is_by_goroutine, IsOrderOf, operations_of}
pub use Rattle.gh_lists.specs.Order.{acted_at, acted_in, Answered, answered, before_step, ever_of, order_at, order_of}
pub use Rattle.gh_model.specs.Ever.{answer_of, Ever, ever_after, opening_ever}
pub use Rattle.gh_script.specs.Program.{Goroutine, no_goroutine, Program, statement_as_op, statements_in, statements_of}
pub use Rattle.gh_world.specs.Cycles.{AreLive, bytes_of}
pub use Rattle.gh_world.specs.Points.{answers_of, ops_of}
pub use Rattle.gh_world.specs.Turns.{count_of, has_turn, is_of_seat, round_of, total_of, turn_of}
unfoldable pub use Rattle.gh_world.specs.Turns.{turns_of}
