pub mod Vocabulary
pub mod Entries
pub mod Knowing
pub mod Markers
pub mod MarkersTake
pub mod Taking
pub mod Tries
pub mod Trying
