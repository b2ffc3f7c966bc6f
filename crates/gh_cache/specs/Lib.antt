pub mod Facts
pub mod Listing
pub mod NextClear
pub mod Sound
pub mod Vocabulary
