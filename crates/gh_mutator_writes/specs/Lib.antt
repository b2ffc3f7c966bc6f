pub mod Blind
pub mod Calm
pub mod Full
pub mod Spending
pub mod Vocabulary
pub mod Writing
