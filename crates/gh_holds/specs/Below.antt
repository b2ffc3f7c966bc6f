-- What the crates above read of a cycle's marking, so that they need not stand on its crate.
pub use Rattle.gh_marked.specs.Drawn.{CycleIsDrawn}
pub use Rattle.gh_marked.specs.HeapBytes.{HeapIsCounted, uncounted_at, untaken, untaken_at}
pub use Rattle.gh_marked.specs.Scanned.{done_by, FewAreScanned, GlobalsAreCounted, most_scanned, objects_in, scanned_in}
pub use Rattle.gh_marked.specs.State.{HasState, IsAsItShould, IsMarking, IsUnderWay, processor_at}
pub use Rattle.gh_marked.specs.Sweepers.{IsInSweep, sweep_of}
pub use Rattle.gh_marked.specs.Endings.{acted_stays}
pub use Rattle.gh_marked.specs.Known.{Known, ListsKnown}
pub use Rattle.gh_marked.specs.MayBegin.{may-begin}
pub use Rattle.gh_marked.specs.OwnEntries.{state_by}
pub use Rattle.gh_marked.specs.Spans.{IsPageFor, OwnersAreProcessors, OwnsOneOfEach, SpansStand}
pub use Rattle.gh_marked.specs.StackWords.{calm_now}
