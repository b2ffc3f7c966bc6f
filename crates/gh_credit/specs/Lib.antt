pub mod Drawing
pub mod Earning
pub mod Vocabulary
