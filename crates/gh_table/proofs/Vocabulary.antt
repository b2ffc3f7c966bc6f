-- The names that several files of proofs/ share.
pub use Rattle.atomic_table.specs.Table.{Allows, Final, Joins, keeps, opening, Seen, Splits}
pub use Rattle.gh_base.specs.Cells.{InRange, length_of, ShowsCells, WordsAreBelow}
pub use Rattle.gh_base.specs.Lists.{Kind, MayFollow}
pub use Rattle.gh_base.specs.Routines.{EndsWithin, Listing, told}
pub use Rattle.gh_base.specs.Steps.{cell_of, changed, effect, request, request_leaves, StepsAreShown, target}
pub use Rattle.gh_base.specs.declared.cell.Ask.TheVariants.{Load}
pub use Rattle.gh_base.specs.declared.cell.Req.TheVariants.{Add, And, Or, Store, Swap}
pub use Rattle.gh_base.specs.declared.layout.Layout.{Layout}
pub use Rattle.gh_table.specs.Rule.{Fits, HoldsOneList, IsAfterOneList, IsLaidOut, MayAsk, NoSeatCarries, Tells, TellsOnce}
pub use Rattle.gh_table.specs.Runs.{begun_next, machine_after, Ran, SawLegalList, WentOn}
pub use Rattle.gh_table.specs.Views.{all_carried, BeganAs, BeganAsEach, Carries, entry, has, joined, leaving, numbers_from, of_others, of_these, Once, one_carried, rest_carried, spent, staying, with_entry, without}
pub use Rattle.gh_table.specs.Vocabulary.{Ask, by, Entry, Legal, Me, Setting, State, state_of, View, words_after}
pub use lib.ListN.{get_elem?}
pub use mathlib.Core.Option.{some, some-injective, some-ne-none}
pub use prog.Atomic.{either}
