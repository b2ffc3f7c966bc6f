pub mod Outcome
pub mod Found
pub mod Vocabulary
