-- What workers scan is counted once in a cycle.
pub mod Routines
pub mod Works
pub mod Claims
pub mod Globals
