-- The names that several files of specs/ share.
pub use Rattle.std.specs.List.{count_by, list_any, position_or_len, slice_get, sum_by}
pub use Rattle.std.specs.Option.{is_some, option_and_then, option_flatten, option_map, option_or}
pub use Rattle.std.specs.Str.{bytes_eq}
pub use Rattle.gh_dump.specs.declared.fault.DumpFault.{DumpFault}
pub use Rattle.gh_dump.specs.declared.fault.DumpWhy.{DumpWhy}
pub use Rattle.gh_dump.specs.declared.item.Item.{Item}
pub use Rattle.gh_dump.specs.declared.item.Item.TheVariants.{Field, Global, ObjectByGlobal, ObjectByParent}
pub use Rattle.gh_dump.specs.declared.name.Name.{Name}
pub use Rattle.gh_dump.specs.declared.name.Reference.{Reference}
