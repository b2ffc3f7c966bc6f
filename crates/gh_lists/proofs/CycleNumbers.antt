-- The numbers of cycles over every legal list of processors, workers and a coordinator.
pub mod Leading
pub mod Asking
pub mod Lists
pub mod Wanting
pub mod Requests
pub mod Plainly
pub mod Few
pub mod Resting
pub mod Stacks
