-- A processor among a collector is in the handshake of a stop.
pub mod Acknowledging
pub mod Processor
pub mod Quiet
