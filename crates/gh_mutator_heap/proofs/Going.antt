-- A processor that goes on while a cycle is marked.
pub mod Assist
pub mod Begins
pub mod End
pub mod Global
pub mod Known
pub mod Load
pub mod Place
pub mod Polls
pub mod Processor
pub mod Register
pub mod Search
pub mod Store
pub mod Values
pub mod Writing
