-- The names that several files of specs/ share.
pub use Rattle.gh_base.specs.Cells.{buffers_of, seats_of}
pub use Rattle.gh_base.specs.Holding.{FitsBuffers, IsHeld, KeepsItsBuffer}
pub use Rattle.gh_base.specs.Machines.{Listing, steps_of}
pub use Rattle.gh_base.specs.Packing.{buffer_of, buffer_word}
pub use Rattle.gh_base.specs.Routines.{EndsWith, GoesOn, told}
pub use Rattle.gh_base.specs.declared.cell.Ask.{Ask}
pub use Rattle.gh_base.specs.declared.cell.Ask.TheVariants.{Load, Store, Swap}
pub use Rattle.gh_base.specs.declared.cell.Cell.{Cell}
pub use Rattle.gh_base.specs.declared.cell.Cell.TheVariants.{Buffer, Touch}
pub use Rattle.gh_base.specs.declared.held.Held.{Held}
pub use Rattle.gh_base.specs.declared.layout.Layout.{Layout}
pub use Rattle.gh_base.specs.declared.pack.TheConstants.{ENTRIES}
pub use Rattle.gh_wbuf.specs.declared.find_room.FindRoom.{FindRoom}
pub use Rattle.gh_wbuf.specs.declared.find_room.RoomStage.{RoomStage}
pub use Rattle.gh_wbuf.specs.declared.give_buffer.GiveBuffer.{GiveBuffer}
pub use Rattle.gh_wbuf.specs.declared.give_buffer.GiveStage.{GiveStage}
pub use Rattle.gh_wbuf.specs.declared.take_entry.TakeEntry.{TakeEntry}
pub use Rattle.gh_wbuf.specs.declared.take_entry.TakeStage.{TakeStage}
pub use Rattle.gh_wbuf.specs.declared.take_entry.TakeStage.TheVariants.{Take, Try}
pub use Rattle.gh_wbuf.specs.declared.try_buffer.TryStage.{TryStage}
pub use Rattle.gh_wbuf.specs.declared.try_buffer.TryStage.TheVariants.{Claim, Look}
pub use Rattle.gh_wbuf.specs.declared.try_buffer.Wish.{Wish}
pub use Rattle.gh_wbuf.specs.declared.try_buffer.Wish.TheVariants.{Entry, Room}
