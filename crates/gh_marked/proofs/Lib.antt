pub mod Vocabulary
pub mod CycleMarking
pub mod Scanned
pub mod OneStep
