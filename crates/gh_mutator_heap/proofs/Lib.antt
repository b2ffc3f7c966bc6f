pub mod Going
pub mod Holding
pub mod Owning
pub mod Sweeping
pub mod Vocabulary
