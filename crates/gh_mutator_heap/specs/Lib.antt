pub mod Beside
pub mod Facts
pub mod PollHeap
pub mod PollHeapLaws
pub mod PollWithin
pub mod Runs
pub mod Sweeping
pub mod Vocabulary
