pub mod Counting
pub mod Enough
pub mod Rounds
