pub mod Below
pub mod Matrices
pub mod Rest
pub mod Whole
pub mod Facts
pub mod Reasons
pub mod Rows
