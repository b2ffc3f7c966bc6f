pub mod Vocabulary
pub mod Moved
pub mod PointerReading
pub mod PointerSetting
mod Rights
