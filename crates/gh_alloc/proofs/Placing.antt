pub mod Marking
pub mod Sound
pub mod Trigger
