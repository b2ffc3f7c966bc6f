-- The names that several files of specs/ share.
pub use Rattle.atomic_table.specs.Table.{Me, State}
pub use Rattle.gh_base.specs.Lists.{by, Legal, Setting, started, state_of, words_after}
pub use Rattle.gh_base.specs.declared.cell.Ask.{Ask}
pub use Rattle.gh_base.specs.declared.machine.Entry.{Entry}
pub use Rattle.gh_table.specs.declared.plan.View.{View}
