pub mod Setup
pub mod Rows
pub mod Work
