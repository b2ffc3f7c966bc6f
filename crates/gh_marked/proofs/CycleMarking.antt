-- While a cycle is marked, over every legal list of processors, workers and a coordinator.
pub mod Apart
pub mod Placing
pub mod Looking
pub mod Moving
pub mod Lists
