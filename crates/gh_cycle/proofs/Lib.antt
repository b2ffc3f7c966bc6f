mod Vocabulary
mod Beginning
mod Bits
mod Bounding
pub mod Going
mod GoneOn
mod Knowing
mod Marked
mod Quiet
mod Reaching
mod Said
mod Searching
