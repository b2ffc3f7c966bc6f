pub mod Texts
pub mod Lines
pub mod Ends
pub mod Soaking
pub mod Reading
pub mod Vocabulary
