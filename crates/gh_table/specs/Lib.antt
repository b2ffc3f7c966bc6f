pub mod Rule
pub mod Runs
pub mod Views
pub mod Vocabulary
