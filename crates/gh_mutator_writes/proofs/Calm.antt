-- A processor while marking is off.
pub mod Holding
pub mod Laws
pub mod Writes
