pub mod Following
pub mod Explained
pub mod Along
pub mod GoingOn
pub mod Vocabulary
pub mod Stores
