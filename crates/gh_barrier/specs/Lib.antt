pub mod Ending
pub mod Facts
pub mod Giving
pub mod Listing
pub mod Sound
pub mod Within
pub mod Vocabulary
