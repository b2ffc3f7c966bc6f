pub mod Ever
pub mod Answers
pub mod Vocabulary
