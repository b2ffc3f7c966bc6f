pub mod Bits
pub mod Facts
pub mod Pointers
pub mod ReadPointer
pub mod SetPointers
pub mod Sound
pub mod Stepping
pub mod Vocabulary
