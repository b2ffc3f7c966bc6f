pub mod Vocabulary
pub mod Finding
mod Rights
pub mod Slots
