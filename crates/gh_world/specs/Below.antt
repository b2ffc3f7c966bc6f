-- What the crates above read of the law of all actors, so that they need not stand on its crates.
pub use Rattle.gh_law.specs.Actors.{AllStands}
pub use Rattle.gh_law.specs.Below.{IsPageFor, IsStanding}
pub use Rattle.gh_law.specs.Credit.{spent_among, spent_at}
