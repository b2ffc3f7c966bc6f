-- The names that several files of proofs/ share.
pub use Rattle.std.proofs.Math.ListN.{set}
pub use Rattle.std.proofs.lemmas.Bool.{cases_eq, cases_lt}
pub use Rattle.std.proofs.lemmas.Bool.Decides.{nat_tests}
pub use Rattle.std.proofs.lemmas.List.{get_or_past, take_more}
pub use Rattle.std.proofs.lemmas.Option.{same_Some}
pub use Rattle.std.specs.List.{All, AllWithin}
pub use Rattle.std.specs.Option.{is_some, IsSome, option_copied, option_map, unwrap_or}
pub use Rattle.gh_ever.specs.Applied.{IsDue, spent, with_value}
pub use Rattle.gh_ever.specs.Cells.{IsDistinct, put_value, same_place, stored_value}
pub use Rattle.gh_ever.specs.Found.{FindsCells, index_of, same_pair}
pub use Rattle.gh_ever.specs.Inside.{IsSound, lists_of}
pub use Rattle.gh_ever.specs.Lists.{Lists, opening_lists, unstored}
unfoldable pub use Rattle.gh_ever.specs.Lists.{ever_of}
pub use Rattle.gh_ever.specs.Marks.{AreComplete, IsFollowed, IsSoundMarks, leads, marked, unmarked, with_mark}
pub use Rattle.gh_ever.specs.Objects.{IsInKnown, IsKnown, kind_of}
pub use Rattle.gh_ever.specs.Sound.{AreSized, Sound}
pub use Rattle.gh_ever.specs.Vocabulary.{Cell, Ever, EverValue, Field, first_value, get, Global, HashMap, Name, names, Object, Place, Reach, Register, same_name, spare, with_field, with_global, with_register}
pub use Rattle.gh_ever.specs.declared.kept.Kept.TheInside.{Inside}
pub use Rattle.gh_model.specs.Ever.{from_field, from_global, from_register, next_name, opening_ever, with_end, with_object}
pub use Rattle.gh_model.specs.declared.EverValue.TheVariants.{Nil, Ref}
