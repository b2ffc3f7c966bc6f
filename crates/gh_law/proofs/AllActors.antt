-- After every legal list of all actors.
pub mod HeapBytes
pub mod Asked
pub mod Triggered
pub mod Pending
pub mod Saying
pub mod Phases
pub mod Scans
pub mod SweepMarks
pub mod OwnedSpans
pub mod NoRoom
pub mod AllOf
pub mod Opened
