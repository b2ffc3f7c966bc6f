pub mod AllActors
pub mod Vocabulary
