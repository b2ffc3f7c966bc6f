pub mod Parts
pub mod Steps
pub mod Ordered
pub mod Vocabulary
