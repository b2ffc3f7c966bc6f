pub mod Facts
pub mod Listing
pub mod Scans
pub mod Sound
pub mod Vocabulary
