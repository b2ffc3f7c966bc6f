pub mod Vocabulary
pub mod Ending
pub mod Markers
pub mod Room
pub mod Within
