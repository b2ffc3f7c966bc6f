pub mod Beside
pub mod Deeds
pub mod Known
pub mod Marked
pub mod Opening
pub mod Reached
pub mod Since
pub mod Vocabulary
