pub mod Vocabulary
pub mod Finding
pub mod Placing
mod FindLasts
mod FindParts
mod FindRights
mod FindWithin
mod PlaceRights
pub mod Quiet
mod SearchRights
pub mod Seeking
