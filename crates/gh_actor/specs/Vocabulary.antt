-- The names that several files of specs/ share.
pub use Rattle.gh_actor.specs.declared.actor.HeapActor.{HeapActor}
pub use Rattle.gh_actor.specs.declared.actor.HeapActor.TheVariants.{Leads, Marks, Runs}
pub use Rattle.gh_base.specs.Blind.{is_store}
pub use Rattle.gh_base.specs.declared.cell.Ask.{Ask}
pub use Rattle.gh_base.specs.declared.layout.Layout.{Layout}
pub use Rattle.gh_base.specs.declared.operation.Op.{Op}
pub use Rattle.gh_base.specs.declared.value.Answer.{Answer}
pub use Rattle.gh_coord.specs.Listing.{Coordinating, opening}
pub use Rattle.gh_lists.specs.declared.handshake.Actor.{Actor}
pub use Rattle.gh_mutator.specs.Sound.{has_names, has_room, most_objects, SoundMutating, SoundOp}
pub use Rattle.gh_script.specs.Program.{Program}
pub use Rattle.gh_world.specs.Wishes.{most_cycles, wishes_of}
