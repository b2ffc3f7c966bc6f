-- Every legal list of steps of actors that are in the handshake.
pub mod Lists
pub mod Leading
pub mod Owning
pub mod Resuming
pub mod Standing
pub mod Still
