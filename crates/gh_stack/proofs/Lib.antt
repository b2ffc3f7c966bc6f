pub mod Markers
pub mod Scanning
pub mod Vocabulary
