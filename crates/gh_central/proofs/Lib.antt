pub mod Vocabulary
mod GiveRights
mod Heads
mod HeadTests
pub mod Lacking
pub mod Owning
mod PassRights
mod ReclaimRights
mod ReclaimSweeps
pub mod Passing
pub mod Reclaiming
mod Starts
pub mod Sweeping
mod Taking
mod UnsweptRights
