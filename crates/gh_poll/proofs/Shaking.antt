-- A processor that polls, waits or leaves is in the handshake of a stop.
pub mod Polls
pub mod Quiet
pub mod Waits
