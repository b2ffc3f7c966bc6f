pub mod FirstUnswept
pub mod Vocabulary
