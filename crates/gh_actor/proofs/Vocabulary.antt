-- The names that several files of proofs/ share.
pub use Rattle.gh_actor.specs.Acting.{Acting}
pub use Rattle.gh_actor.specs.Vocabulary.{Layout, Runs, wishes_of}
pub use Rattle.gh_mutator.specs.Faults.{rested}
pub use Rattle.gh_mutator.specs.Mutating.{Mutating}
pub use Rattle.gh_world.specs.Wishes.{wishes_in}
