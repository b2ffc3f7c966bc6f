-- The names that several files of specs/ share.
pub use Rattle.std.specs.Int.{bit_at}
pub use Rattle.gh_base.specs.Machines.{Listing, steps_of}
pub use Rattle.gh_base.specs.declared.cell.Ask.TheVariants.{Load}
pub use Rattle.gh_base.specs.declared.cell.Cell.TheVariants.{Alloc, Touch}
pub use Rattle.gh_base.specs.declared.layout.Layout.{Layout}
pub use Rattle.gh_cache.specs.declared.next_slot.Cached.{Cached}
pub use Rattle.gh_cache.specs.declared.next_slot.NextSlot.{NextSlot}
pub use Rattle.gh_cache.specs.declared.next_slot.SlotStage.{SlotStage}
pub use Rattle.gh_cache.specs.declared.next_slot.SlotStage.TheVariants.{Ended, Look}
pub use Rattle.gh_class.specs.Classes.{pages_of, slot_words_of, slots_of}
