pub mod Looking
pub mod Rows
