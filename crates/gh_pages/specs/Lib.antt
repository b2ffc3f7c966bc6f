pub mod Facts
pub mod FirstFit
pub mod Listing
pub mod Sound
pub mod Vocabulary
