pub mod Columns
pub mod Strict
