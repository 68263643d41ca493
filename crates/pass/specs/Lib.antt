pub mod Pass
pub mod Rows
pub mod Work
