pub mod Actors
pub mod Lists
pub mod Processors
