pub mod Alone
pub mod Counts
pub mod Facts
pub mod Slots
pub mod Steps
