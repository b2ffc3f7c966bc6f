pub mod Vocabulary
pub mod Bits
pub mod Sharing
pub mod Sweeping
