pub mod Carving
mod Owning
pub mod Vocabulary
