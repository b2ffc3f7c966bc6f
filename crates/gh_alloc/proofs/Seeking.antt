pub mod Firsts
pub mod Locking
pub mod Parts
pub mod Refusing
pub mod Rounds
pub mod Sweeping
pub mod Sound
