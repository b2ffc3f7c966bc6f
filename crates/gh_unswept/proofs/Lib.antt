mod FirstUnswept
pub mod Vocabulary
