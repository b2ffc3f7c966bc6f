-- The names that several files of proofs/ share.
pub use Rattle.gh_base.specs.declared.operation.Op.{Op}
pub use Rattle.gh_base.specs.declared.shape.Shape.{Shape}
pub use Rattle.gh_base.specs.declared.value.Name.{Name}
pub use Rattle.gh_generated.specs.Orders.{AllKeepToTheirOwn, ever_left_by, is_by_goroutine, IsOrderOf, KeepsToItsOwn, operations_of}
pub use Rattle.gh_model.specs.Ever.{answer_of, answer_of_value, Ever, ever_after, first_value, fits, has_field, is_number, is_pointer_field, load_answer, next_name, opening_ever, same_name, sets_global, store_answer, stores_value, takes_answer, with_end, with_field, with_global, with_object, with_register}
pub use Rattle.gh_model.specs.declared.EverValue.{EverValue}
pub use Rattle.gh_script.specs.Generated.{KeepsTo}
unfoldable pub use Rattle.gh_script.specs.Generated.{generated_program}
