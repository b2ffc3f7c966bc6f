-- What the crates above read of the crates below, so that they need not stand on each of those.
pub use Rattle.gh_mutator_heap.specs.Facts.{ShapesAreGood}
pub use Rattle.gh_holds.specs.Objects.{AllWereCounted, FreesTheUnreached, FreesWithinTwo, IsMarkedObject, IsStanding, LeavesTheReached, WasCounted}
pub use Rattle.gh_holds.specs.Below.{IsPageFor, objects_in, scanned_in}
