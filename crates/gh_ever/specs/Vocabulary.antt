-- The names that several files of specs/ share.
pub use Rattle.std.specs.HashMap.{get, HashMap, spare}
pub use Rattle.gh_base.specs.Shapes.{is_pointer, shape_at}
pub use Rattle.gh_base.specs.declared.shape.Shape.{Shape}
pub use Rattle.gh_base.specs.declared.value.Name.{Name}
pub use Rattle.gh_ever.specs.declared.cell.Cell.{Cell}
pub use Rattle.gh_ever.specs.declared.cell.Place.{Place}
pub use Rattle.gh_ever.specs.declared.cell.Place.TheVariants.{Field, Global, Register}
pub use Rattle.gh_ever.specs.declared.object.Object.{Object}
pub use Rattle.gh_model.specs.Ever.{answer_of, Ever, ever_after, first_value, names, Reach, same_name, with_field, with_global, with_register}
pub use Rattle.gh_model.specs.declared.EverValue.{EverValue}
