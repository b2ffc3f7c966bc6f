pub mod EachMore
pub mod Vocabulary
