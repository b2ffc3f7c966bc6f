pub mod Turns
pub mod Acting
pub mod Counts
pub mod Vocabulary
