pub mod BitRows
pub mod Running
pub mod Steps
