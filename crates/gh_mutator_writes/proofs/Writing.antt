-- Which words a processor writes, and what it notes.
pub mod Assisting
pub mod Laws
pub mod Polls
pub mod Processor
pub mod Routines
pub mod Rows
pub mod Steps
