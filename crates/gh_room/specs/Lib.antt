pub mod Room
pub mod Rounds
