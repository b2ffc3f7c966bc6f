pub mod Steps
pub mod Acted
pub mod Seats
