pub mod Counting
pub mod Codes
pub mod Counts
pub mod Made
pub mod Crowded
pub mod Never
pub mod Generated
pub mod Vocabulary
