pub mod Vocabulary
pub mod Knowing
pub mod LastCycle
pub mod CycleNumbers
pub mod Shaking
pub mod Changes
