pub mod Shaking
pub mod Vocabulary
