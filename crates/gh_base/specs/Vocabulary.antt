-- The names that several files of specs/ share.
pub use Rattle.std.specs.Int.{bit_at}
pub use Rattle.gh_base.specs.declared.cell.Ask.{Ask}
pub use Rattle.gh_base.specs.declared.cell.Ask.TheVariants.{Load, Or, Store, Swap}
pub use Rattle.gh_base.specs.declared.cell.Cell.{Cell}
pub use Rattle.gh_base.specs.declared.cell.Cell.TheVariants.{Ack, Alloc, Bank, Begun, Birth, Bitmap, Buffer, Entry, Field, Gcur, Gen, Global, Heap, Live, Lock, Mark, Page, Phase, Scanned, Slack, Swept, Tally, Touch, Trigger, Want, Work}
