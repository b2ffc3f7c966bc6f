-- A grey work buffer with room, after every list.
pub mod Hands
pub mod Marked
pub mod Always
pub mod Passing
