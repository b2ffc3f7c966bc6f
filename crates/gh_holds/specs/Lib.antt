pub mod ActorsHold
pub mod Below
pub mod EveryList
pub mod HasAt
pub mod Objects
pub mod OfLists
pub mod Standing
pub mod Vocabulary
