pub mod Locking
pub mod Refusing
pub mod Within
pub mod Sound
