-- A processor that polls, waits or leaves while marking is on.
pub mod Gives
pub mod Known
pub mod Polls
pub mod Scans
pub mod Waits
