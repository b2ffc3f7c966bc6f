-- The names that several files of specs/ share.
pub use Rattle.std.specs.List.{before_first, flat_map, list_all, list_any, range_with_len, repeat}
pub use Rattle.std.specs.Option.{option_and_then, option_map, option_to_list}
pub use Rattle.std.specs.Str.{bytes_eq, is_utf8}
pub use Rattle.gh_base.specs.Shapes.{bits_at, FitsShape, ShapesFit}
pub use Rattle.gh_base.specs.declared.shape.Shape.{Shape}
pub use Rattle.gh_class.specs.declared.class.TheConstants.{MOST_TYPE_WORDS}
pub use Rattle.gh_script.specs.declared.fault.ScriptFault.{ScriptFault}
pub use Rattle.gh_script.specs.declared.fault.Why.{Why}
pub use Rattle.gh_script.specs.declared.given.Given.{Given}
pub use Rattle.gh_script.specs.declared.key.Key.{Key}
pub use Rattle.gh_script.specs.declared.key.Setting.{Setting}
pub use Rattle.gh_script.specs.declared.key.Setting.TheVariants.{Arena, Globals, Gogc, Minheap, Procs, Workers}
pub use Rattle.gh_script.specs.declared.statement.Settings.{Settings}
pub use Rattle.gh_script.specs.declared.statement.Stmt.{Stmt}
pub use Rattle.gh_script.specs.declared.statement.Stmt.TheVariants.{Gc, GetGlobal, Int, Load, Move, New, Nil, SetGlobal, Store}
