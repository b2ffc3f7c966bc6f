mod Known
mod Quiet
mod Swept
mod Beside
mod Keeps
mod Leaves
mod Routines
mod Cycles
mod SweepsLeave
mod Walkers
mod Slots
mod Told
pub mod Vocabulary
