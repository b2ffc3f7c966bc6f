pub mod Jobs
pub mod Told
