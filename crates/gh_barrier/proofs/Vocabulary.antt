-- The names that several files of proofs/ share.
pub use Rattle.gh_barrier.specs.Listing.{after_new, after_old, asks_at, at_stage, behind_old, cell_at, given_at, goes, goes_at, held_at, is_busy, listing, pointer_word, read_as, shades_old, with_old, writes, Writing}
pub use Rattle.gh_barrier.specs.Sound.{FitsPointer, HasTwo, SoundStage, SoundWriting}
pub use Rattle.gh_barrier.specs.Vocabulary.{Ended, HasPlace, Held, InRange, Layout, LoadOld, ShadeNew, ShadeOld, Store, WriteStage}
pub use Rattle.gh_base.specs.Cells.{put}
pub use Rattle.gh_base.specs.Steps.{cell_of, effect}
pub use Rattle.gh_shade.specs.Listing.{gives, object_of, Shading}
pub use Rattle.gh_shade.specs.Sound.{SoundShading}
pub use Rattle.gh_shade.specs.declared.shade.Shaded.{Shaded}
pub use Rattle.gh_shade.specs.declared.shade.Shaded.TheVariants.{Done, WantsRoom}
